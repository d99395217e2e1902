-- `replays::bench_replay_on` meets its contract. Assumes nothing.
use mathlib.Core.Path.{ap, ◌∙◌}
use Rattle.bench.specs.inner.Digest.{sum_of}
use Rattle.bench.proofs.replays.bench_replay_on.Goals as goal

pub returns : goal.returns
returns c =
    let played = c.replay_on.ensures in
    record {
      value = c.said.ensures ∙ ap (λ o. sum_of o.0) played;
      s_after = ap (λ o. o.1) played;
    }
