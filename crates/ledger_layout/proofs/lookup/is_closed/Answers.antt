-- `is_closed` meets its contract. Assumes nothing.
use native.Mathlib.Omega.{arith}
use Rattle.ledger_layout.proofs.Readers.{closed_on}
use Rattle.ledger_layout.proofs.lookup.is_closed.Goals as goal

pub returns : goal.returns
returns c = rw c.desk_at.ensures (closed_on _ _ (omega arith))
