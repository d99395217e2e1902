-- `right::is_unused_zero` meets its contract. Assumes nothing.
use Rattle.settings.specs.Sheet.{unused_zero}
use Rattle.settings.proofs.right.is_unused_zero.Goals as goal

pub returns : goal.returns
unfolding unused_zero
returns c = rw (← c.count-used.ensures) c.is_long_zero.ensures
