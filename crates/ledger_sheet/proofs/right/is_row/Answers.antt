-- `right::is_row` meets its contract. Assumes nothing.
use borrow.Author.Tests.{lt-ltb, le-ltb}
use Rattle.ledger_sheet.proofs.right.is_row.Goals as goal

pub returns-then-i-ge-ROWS : goal.returns-then-i-ge-ROWS
returns-then-i-ge-ROWS c = rw (le-ltb _ _ c.if-i-ge-ROWS.true)

pub returns : goal.returns
returns c = rw (lt-ltb _ _ c.if-i-ge-ROWS.false) c.is_used.ensures
