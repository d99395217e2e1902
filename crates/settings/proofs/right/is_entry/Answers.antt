-- `right::is_entry` meets its contract. Assumes nothing.
use Rattle.settings.specs.Sheet.{entry_right}
use Rattle.settings.proofs.right.is_entry.Goals as goal

pub returns : goal.returns
unfolding entry_right
returns c = rw (← c.read_setting.ensures, c.is_known-known.ensures, c.read_be-zeros.ensures)
