-- `ticks::mark_desk` meets its contract: the part lent comes back into the sheet. Assumes nothing.
use Prim.Native.Nat.{◌+◌, ◌-◌}
use native.Mathlib.Omega.{arith}
use Rattle.ledger_sheet.specs.Sheet.{row_size, worked_at}
use borrow.Author.Tests.{lt-ltb}
use mathlib.Core.Path.{◌∙◌}
use Rattle.ledger_changes.specs.inner.Bytes.{mark_row}
use Rattle.ledger_changes.proofs.Marked.{mark_on}
use Rattle.ledger_layout.proofs.Puts.{lent_back}
use Rattle.ledger_changes.proofs.ticks.mark_desk.Goals as goal

pub returns : goal.returns
returns c =
    let g = c.args in
    let pre = c.requires in
    let a = c.desk_at-a.result + worked_at in
    lent_back g.s.now a (a + row_size - a) row_size (mark_row g.on g.n) (omega arith) (omega arith) c.mark_row.ensures
    ∙ rw c.desk_at-a.ensures (mark_on _ c.slice_known-1.given pre.0.0 _ (lt-ltb _ _ pre.1) pre.2 _ _)
