-- `replays::bench_replay` meets its contract. Assumes nothing.
use mathlib.Core.Path.{ap, ◌∙◌}
use Rattle.bench.specs.inner.Digest.{sum_of}
use Rattle.bench.proofs.replays.bench_replay.Goals as goal

pub returns : goal.returns
returns c =
    let played = c.replay.ensures in
    (c.said.ensures ∙ ap (λ o. sum_of o.0) played, ap (λ o. o.1) played)
