-- `open_row` meets its contract. Assumes nothing.
use native.Mathlib.Omega.{arith}
use Rattle.std.proofs.Common.{◌≡◌, sym, ap, ◌∙◌, true, ◌+◌}
use borrow.Author.Tests.{not-true, not-false}
use Rattle.std.specs.Prelude.{Some}
use Rattle.ledger_model.specs.Book.{desk, is_open}
use Rattle.ledger_sheet.specs.Sheet.{desk_row_at}
use Rattle.ledger_layout.specs.Layout.{book_of}
use Rattle.ledger_layout.proofs.Readers.{named-on}
use Rattle.ledger_layout.proofs.Scans.{opened-row, closed-row}
use Rattle.ledger_layout.proofs.lookup.open_row.Goals as goal

pub returns-then-is_closed : goal.returns-then-is_closed
returns-then-is_closed c = sym (closed-row _ (not-true _ (sym c.is_closed.ensures ∙ c.if-is_closed.true)))

pub overflow_cast-result : goal.overflow_cast-result
overflow_cast-result c = omega (arith, c.shared_slice_known-2-1.given (c.desk_at.result + desk_row_at))

pub returns : goal.returns
returns c =
    let is : is_open (desk (book_of c.args.s.now) c.args.d) ≡ true = not-false _ (sym c.is_closed.ensures ∙ c.if-is_closed.false) in
    ap Some (rw c.desk_at.ensures (named-on _ _ (omega arith) c.requires.0.0)) ∙ sym (opened-row _ is)
