-- What the search of the table of new years finds. Assumes nothing.
use Rattle.std.specs.Prelude.{ℕ, ◌+◌, ◌<◌, ◌≤◌}
use Rattle.dates.specs.Calendar.{first_year, last_year, new_year}

-- The year, 1900 to 3000, that a day count falls in: on or after its 1 January, and before the next one.
pub record Within (year count : ℕ) : Type 0 where
  pub first : first_year ≤ year
  pub last : year ≤ last_year
  pub begun : new_year year ≤ count
  pub on : count < new_year (year + 1)
