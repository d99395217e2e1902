-- `bench::samples::bench_unpack` meets its contract. Assumes nothing.
use Prim.Native.Nat.{ℕ}
use mathlib.Core.List.{List}
use mathlib.Core.Path.{ap, ◌∙◌}
use lib.IntN.{ℤ}
use Rattle.bench.specs.inner.Digest.{tallied}
use Rattle.bench.proofs.samples.bench_unpack.Goals as goal

pub returns : goal.returns
returns c =
    let e = c.unpack.ensures in
    record {
      value = c.tally.ensures ∙ ap (λ (p : List ℕ × List ℤ). tallied p.0) e;
      list_after = ap (λ (p : List ℕ × List ℤ). p.1) e;
    }
