-- `is_day` meets its contract. Assumes nothing.
use Rattle.dates.specs.Calendar.{is_day}
use Rattle.dates.proofs.is_day.Goals as goal

pub returns : goal.returns
unfolding is_day
returns c = rw c.days_in.ensures
