-- `bench::said` meets its contract. Assumes nothing.
use Prim.Native.Nat.{ℕ}
use mathlib.Core.List.{[], ◌∷◌}
use mathlib.Core.Path.{ap, sym, ◌∙◌}
use Rattle.ledger_sheet.specs.Words.{answer_words}
use Rattle.bench.proofs.said.Goals as goal

pub returns-in-Err : goal.returns-in-Err
returns-in-Err c =
    ap (λ (n : ℕ). n ∷ []) c.number.ensures ∙ ap answer_words (sym c.in-Err.is)
