-- The answer of `day_count`, which read headers calls. Assumes nothing.
use Rattle.std.specs.Prelude.{ℕ, cond, Option, Some, None}
use Rattle.dates.specs.Calendar.{is_date, day_count}

-- The day count of a year and a day, if they are a date. The papers give this refusal no number; read headers answers 12 for the wrong field.
abbrev pub count_of : (year day : ℕ) → Option ℕ
count_of year day = cond (is_date year day) (Some (day_count year day)) None
