-- `ticks::mark_row` meets its contract. Assumes nothing.
use Rattle.ledger_changes.specs.inner.Bytes.{mark_row}
use Rattle.ledger_changes.proofs.ticks.mark_row.Goals as goal

pub returns : goal.returns
unfolding mark_row
returns c =
    rw (← c.key_at-key.ensures, ← c.first_at-first.ensures, ← c.position.ensures) c.mark_position.ensures
