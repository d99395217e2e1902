-- `desks::clear_desk` meets its contract. Assumes nothing.
use mathlib.Core.Path.{◌∙◌}
use Rattle.ledger_layout.proofs.Writers.{clear-on}
use Rattle.ledger_changes.proofs.desks.clear_desk.Goals as goal

pub returns : goal.returns
returns c =
    (rw c.desk_at.ensures at c.clear.ensures)
    ∙ clear-on _ c.slice_known-1.given c.requires.0.0 _ c.requires.1
