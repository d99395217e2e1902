-- `old::is_header` meets its contract. Assumes nothing.
use Rattle.ledger_convert.specs.Old.{header_right}
use Rattle.ledger_convert.proofs.old.is_header.Goals as goal

pub returns : goal.returns
unfolding header_right
returns c =
    rw (
      c.read_be.ensures,
      c.read_be-2.ensures,
      c.read_be-3.ensures,
      c.read_be-4.ensures,
      c.read_be-5.ensures,
      c.read_be-6.ensures,
    )
