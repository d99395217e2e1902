-- The words of a day count for C. Assumes nothing.
-- The manual, docs/INTERFACE.md: "Calls from C".
use Rattle.std.specs.Prelude.{ℕ, cond, List, [], ◌∷◌}
use Rattle.dates.specs.Calendar.{is_date, day_count}
use Rattle.sfdu_headers.specs.Words.{Word, number, none}

-- The day count; a none if the year and the day are no date.
abbrev pub day_counted : (year day : ℕ) → List Word
day_counted year day = number 0 ∷ cond (is_date year day) (number (day_count year day)) none ∷ []
