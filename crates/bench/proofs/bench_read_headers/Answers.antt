-- `bench::bench_read_headers` meets its contract. Assumes nothing.
use mathlib.Core.Path.{ap, ◌∙◌}
use Rattle.answers.specs.Numbers.{numbers_of}
use Rattle.bench.specs.inner.Digest.{xor_of}
use Rattle.bench.proofs.bench_read_headers.Goals as goal

pub returns : goal.returns
returns c =
    c.xor_of.ensures ∙ ap xor_of (c.headers.ensures.0 ∙ ap numbers_of c.read_headers-found.ensures)
