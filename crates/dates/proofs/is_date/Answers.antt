-- `is_date` meets its contract. Assumes nothing.
use Rattle.dates.specs.Calendar.{is_date}
use Rattle.dates.proofs.is_date.Goals as goal

pub returns : goal.returns
unfolding is_date
returns c = rw (c.is_year.ensures, c.is_day.ensures)
