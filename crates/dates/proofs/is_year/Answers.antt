-- `is_year` meets its contract. Assumes nothing.
use mathlib.Core.Path.{refl}
use Rattle.dates.specs.Calendar.{is_year}
use Rattle.dates.proofs.is_year.Goals as goal

pub returns : goal.returns
unfolding is_year
returns c = refl
