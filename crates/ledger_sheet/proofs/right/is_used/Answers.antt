-- `right::is_used` meets its contract. Assumes nothing.
use Rattle.ledger_sheet.proofs.right.is_used.Goals as goal

pub returns : goal.returns
returns c = rw (c.read_be.ensures, c.row_at.ensures)
