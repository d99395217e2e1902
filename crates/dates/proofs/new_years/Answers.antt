-- `new_years` meets its contract: the table passes the test of the leap rule. Assumes nothing.
use mathlib.Core.Path.{refl}
use Rattle.dates.specs.Calendar.{is_leap, year_length}
use Rattle.dates.proofs.Rule.{goes_on, by-the-rule}
use Rattle.dates.proofs.new_years.Goals as goal

pub returns : goal.returns
unfolding goes_on year_length is_leap
returns c = by-the-rule _ refl refl
