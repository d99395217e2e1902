-- `write_desk` meets its contract. Assumes nothing.
use native.Mathlib.Omega.{arith}
use mathlib.Core.Path.{◌∙◌}
use lib.ListN.{length-set}
use Rattle.ledger_layout.proofs.RowBytes.{length-row}
use Rattle.ledger_changes.proofs.Written.{desk-written}
use Rattle.ledger_convert.proofs.write_desk.Goals as goal

pub bounds-new-a-2 : goal.bounds-new-a-2
bounds-new-a-2 c = simp length-set (omega arith)

pub clear-requires : goal.clear-requires
clear-requires c = simp length-set (omega arith)

pub write_row-requires : goal.write_row-requires
write_row-requires c =
    let kept = simp length-set at c.clear.auto.s in
    omega arith

pub write_row-requires-2 : goal.write_row-requires-2
write_row-requires-2 c =
    let kept = simp length-set at c.clear.auto.s in
    let kept-2 = c.write_row.auto.s in
    omega arith

pub shape_of-new : goal.shape_of-new
shape_of-new c =
    c.write_row-2.auto.s ∙ c.write_row.auto.s ∙ (simp length-set at c.clear.auto.s)

pub returns : goal.returns
returns c =
    let pre = c.requires in
    let place = c.desk_at-a.ensures in
    desk-written _ _ _ pre.sized.0 pre.sized.1 (rw place at c.clear.ensures) _ (length-row _ _ _ pre.ticks.0)
    (rw place at c.write_row.ensures) _ (length-row _ _ _ pre.ticks.1) (rw place at c.write_row-2.ensures)
