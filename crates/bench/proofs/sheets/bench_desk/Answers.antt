-- `bench::sheets::bench_desk` meets its contract. Assumes nothing.
use Prim.Native.Nat.{ℕ}
use mathlib.Core.List.{List}
use mathlib.Core.Path.{ap, ◌∙◌}
use Rattle.answers.specs.Numbers.{with_none}
use Rattle.bench.proofs.Numbers.{few-onto}
use Rattle.bench.proofs.sheets.bench_desk.Goals as goal

pub returns : goal.returns
returns c =
    let words = ap (λ (o : List ℕ × List ℕ). with_none 3 o.0) c.desk.ensures in
    c.onto.ensures ∙ few-onto _ words c.desk-2.ensures
