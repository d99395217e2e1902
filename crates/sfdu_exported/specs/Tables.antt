-- The entries of the table of new years. Assumes nothing.
use Rattle.std.specs.Prelude.{ℕ, ◌+◌, cond, leb}
use Rattle.dates.specs.Calendar.{first_year, last_year, new_year}

-- Entry i of the table; 0 past its end.
unfoldable pub new_year_at : (i : ℕ) → ℕ
new_year_at i = cond (leb (first_year + i) last_year) (new_year (first_year + i)) 0
