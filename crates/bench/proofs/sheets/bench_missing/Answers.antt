-- `bench::sheets::bench_missing` meets its contract. Assumes nothing.
use Prim.Native.Nat.{ℕ}
use mathlib.Core.List.{List}
use mathlib.Core.Path.{ap, ◌∙◌}
use Rattle.answers.specs.Numbers.{plain}
use Rattle.bench.proofs.Numbers.{few-onto}
use Rattle.bench.proofs.sheets.bench_missing.Goals as goal

pub returns : goal.returns
returns c =
    let called = c.missing_numbers.ensures in
    let words = ap (λ (o : List ℕ × List ℕ). plain o.0) called in
    record {
      value = c.onto.ensures ∙ few-onto _ words c.number.ensures;
      list_after = ap (λ (o : List ℕ × List ℕ). o.1) called;
    }
