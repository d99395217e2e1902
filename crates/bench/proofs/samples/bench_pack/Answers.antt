-- `bench::samples::bench_pack` meets its contract. Assumes nothing.
use Prim.Native.Nat.{ℕ}
use mathlib.Core.List.{List}
use mathlib.Core.Path.{ap, ◌∙◌}
use Rattle.bench.specs.inner.Digest.{tallied}
use Rattle.bench.proofs.samples.bench_pack.Goals as goal

pub returns : goal.returns
returns c =
    let e = c.pack.ensures in
    record {
      value = c.tally.ensures ∙ ap (λ (p : List ℕ × List ℕ). tallied p.0) e;
      out_after = ap (λ (p : List ℕ × List ℕ). p.1) e;
    }
