-- `ledger_counts::number_in` meets its contract. Assumes nothing.
use Rattle.ledger_counts.proofs.number_in.Goals as goal

pub returns : goal.returns
returns c = rw (← c.key_at-key.ensures, ← c.first_at-first.ensures) c.number_at.ensures
