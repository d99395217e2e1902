-- `rows::read_row` meets its contract. Assumes nothing.
use Rattle.ledger_changes.specs.inner.Rows.{row_value_at}
use Rattle.ledger_changes.proofs.rows.read_row.Goals as goal

pub returns : goal.returns
unfolding row_value_at
returns c = rw (c.key_at-key.ensures, c.first_at-first.ensures, c.read_ticks-ticks.ensures)
