-- The words of a day count are those of the date's. Assumes nothing.
use Prim.Native.Nat.{ℕ}
use mathlib.Core.Bool.{Bool, true, false, cond}
use mathlib.Core.List.{[], ◌∷◌}
use mathlib.Core.Path.{◌≡◌, refl}
use Rattle.dates.specs.Calendar.{is_date, day_count}
use Rattle.dates.specs.inner.Counted.{count_of}
use Rattle.std.specs.Prelude.{Some, None}
use Rattle.sfdu_headers.specs.Words.{number, none}
use Rattle.answers.specs.Dates.{day_counted}
use Rattle.answers.specs.inner.Dates.{count_words}

pub day-counted : (year day : ℕ) → count_words (count_of year day) ≡ day_counted year day
day-counted year day = by (is_date year day)
  where
    by : (b : Bool) → count_words (cond b (Some (day_count year day)) None) ≡ number 0 ∷ cond b (number (day_count year day)) none ∷ []
    by true = refl
    by false = refl
