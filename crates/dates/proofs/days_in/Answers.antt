-- `days_in` meets its contract. Assumes nothing.
use Rattle.dates.specs.Calendar.{year_length}
use Rattle.dates.proofs.days_in.Goals as goal

pub returns-then-is_leap : goal.returns-then-is_leap
unfolding year_length
returns-then-is_leap c = rw (← c.is_leap.ensures, c.if-is_leap.true)

pub returns-else-is_leap : goal.returns-else-is_leap
unfolding year_length
returns-else-is_leap c = rw (← c.is_leap.ensures, c.if-is_leap.false)
