-- `desks::make_fresh` meets its contract. Assumes nothing.
use native.Mathlib.Omega.{arith}
use Rattle.ledger_changes.proofs.Written.{fresh-written}
use Rattle.ledger_changes.proofs.desks.make_fresh.Goals as goal

pub returns : goal.returns
returns c =
    fresh-written _ (omega arith) c.write_header.ensures c.clear.ensures
