-- `rows::blank_row` meets its contract. Assumes nothing.
use mathlib.Core.Path.{refl}
use Rattle.ledger_changes.specs.inner.Rows.{blank_row, blank_ticks}
use Rattle.ledger_changes.proofs.rows.blank_row.Goals as goal

pub returns : goal.returns
unfolding blank_row blank_ticks
returns c = refl
