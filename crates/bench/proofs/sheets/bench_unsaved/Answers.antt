-- `bench::sheets::bench_unsaved` meets its contract. Assumes nothing.
use Prim.Native.Nat.{ℕ}
use mathlib.Core.List.{List}
use mathlib.Core.Path.{ap, ◌∙◌}
use Rattle.answers.specs.Numbers.{plain}
use Rattle.bench.proofs.Numbers.{few-onto}
use Rattle.bench.proofs.sheets.bench_unsaved.Goals as goal

pub returns : goal.returns
returns c =
    let words = ap (λ (o : List ℕ × List ℕ). plain o.0) c.unsaved.ensures in
    c.onto.ensures ∙ few-onto _ words c.unsaved-2.ensures
