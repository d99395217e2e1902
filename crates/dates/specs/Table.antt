-- What the table of new years holds. Assumes nothing.
-- The manual, docs/INTERFACE.md: "Dates".
use Rattle.std.specs.Prelude.{ℕ, ◌+◌, ◌-◌, ◌≤◌, ◌≡◌, List, get_or, length}
use Rattle.dates.specs.Calendar.{first_year, last_year, new_year}

-- The day count of 1 January for each year 1900 to 3000.
pub record NewYears (table : List ℕ) : Type 0 where
  pub years : length table ≡ last_year - first_year + 1
  pub entry : (year : ℕ) → first_year ≤ year → year ≤ last_year → get_or table (year - first_year) 0 ≡ new_year year
