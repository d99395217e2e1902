-- `desks::write_header` meets its contract. Assumes nothing.
use Rattle.ledger_changes.proofs.Written.{header-written}
use Rattle.ledger_changes.proofs.desks.write_header.Goals as goal

pub returns : goal.returns
returns c =
    header-written _ _ c.requires c.write_be.ensures c.write_be-2.ensures c.write_be-3.ensures
    c.write_be-4.ensures c.write_be-5.ensures c.write_be-6.ensures
