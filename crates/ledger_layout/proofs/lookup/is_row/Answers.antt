-- `is_row` meets its contract. Assumes nothing.
use mathlib.Core.Path.{◌∙◌}
use Rattle.ledger_layout.proofs.Readers.{row_on}
use Rattle.ledger_layout.proofs.lookup.is_row.Goals as goal

pub is_row-requires : goal.is_row-requires
is_row-requires c = c.requires.1

pub returns : goal.returns
returns c = c.is_row.ensures ∙ row_on _ _
