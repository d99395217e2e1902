-- `right::is_header` meets its contract. Assumes nothing.
use Rattle.ledger_sheet.specs.Sheet.{header_right}
use Rattle.ledger_sheet.proofs.right.is_header.Goals as goal

pub returns : goal.returns
unfolding header_right
returns c =
    rw (
      c.read_be.ensures,
      c.read_be-2.ensures,
      c.read_be-3.ensures,
      c.read_be-4.ensures,
      c.read_be-5.ensures,
    )
