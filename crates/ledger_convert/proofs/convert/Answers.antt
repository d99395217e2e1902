-- `convert` meets its contract. Assumes nothing.
use mathlib.Core.List.{List, [], ◌∷◌}
use mathlib.Core.Path.{ap}
use Prim.Native.Nat.{ℕ}
use borrow.Author.Tests.{eq-eqb, ne_eqb}
use Rattle.laws.proofs.Bools.{failed, passed}
use Rattle.ledger_convert.specs.Convert.{convert_on}
use Rattle.ledger_convert.proofs.convert.Goals as goal

pub returns-then-new-ne-SHEET : goal.returns-then-new-ne-SHEET
unfolding convert_on
returns-then-new-ne-SHEET c = rw (ne_eqb _ _ c.if-new-ne-SHEET.true)

pub returns-then-not-is_old_sheet : goal.returns-then-not-is_old_sheet
unfolding convert_on
returns-then-not-is_old_sheet c = rw (eq-eqb _ _ c.if-new-ne-SHEET.false, failed c.is_old_sheet.ensures c.if-not-is_old_sheet.true-raw)

pub lay_out-requires : goal.lay_out-requires
lay_out-requires c = (c.if-new-ne-SHEET.false, passed c.is_old_sheet.ensures c.if-not-is_old_sheet.false-raw)

pub returns : goal.returns
unfolding convert_on
returns c =
    rw (eq-eqb _ _ c.if-new-ne-SHEET.false, passed c.is_old_sheet.ensures c.if-not-is_old_sheet.false-raw)
    (ap (λ (t : List ℕ). (0 ∷ [], t)) c.lay_out.ensures)
