-- Document 02, Req 01: the dates of the years 1900 to 3000 and their day counts. 1 January 1900 is day 0.
-- Assumes nothing.
-- The manual, docs/INTERFACE.md: "Dates".
use Rattle.std.specs.Prelude.{ℕ, zero, suc, ◌+◌, ◌-◌, ◌%◌, Bool, cond, not, ◌&&◌, ◌||◌, List, [], ◌∷◌, eqb, leb, ltb}
use Rattle.refusals.specs.Judge.{◌when◌, answered}

abbrev pub first_year : ℕ
first_year = 1900

abbrev pub last_year : ℕ
last_year = 3000

-- The day count of the last day of 3000.
abbrev pub last_count : ℕ
last_count = 402131

-- The Gregorian rule: every fourth year is a leap year, but of the years that end a century only every fourth.
unfoldable pub is_leap : (year : ℕ) → Bool
is_leap year = eqb (year % 4) 0 && (not (eqb (year % 100) 0) || eqb (year % 400) 0)

unfoldable pub year_length : (year : ℕ) → ℕ
year_length year = cond (is_leap year) 366 365

-- How many days the first `years` years from 1900 have.
unfoldable pub days_of_years : (years : ℕ) → ℕ
days_of_years zero = 0
days_of_years (suc k) = days_of_years k + year_length (first_year + k)

-- The day count of 1 January of a year.
unfoldable pub new_year : (year : ℕ) → ℕ
new_year year = days_of_years (year - first_year)

unfoldable pub is_year : (year : ℕ) → Bool
is_year year = leb first_year year && leb year last_year

-- Days of a year count from 1. Only a leap year has a day 366.
unfoldable pub is_day : (year day : ℕ) → Bool
is_day year day = leb 1 day && leb day (year_length year)

unfoldable pub is_date : (year day : ℕ) → Bool
is_date year day = is_year year && is_day year day

-- The day count of a date. Day 1 of a year has the count `new_year`.
unfoldable pub day_count : (year day : ℕ) → ℕ
day_count year day = new_year year + day - 1

-- The date that lies `left` days after 1 January of `year`. Goes on to the next year while `left` is not less than the year's days, for at most
-- `years` years. The words are 0, the year, the day.
unfoldable pub date_from : (years year left : ℕ) → List ℕ
date_from zero year left = 0 ∷ year ∷ (left + 1) ∷ []
date_from (suc more) year left =
    cond (ltb left (year_length year)) (0 ∷ year ∷ (left + 1) ∷ []) (date_from more (year + 1) (left - year_length year))

-- The date of a day count. A count past the last day of 3000 gives 33 alone.
unfoldable pub date_of : (count : ℕ) → List ℕ
date_of count = answered (((33 ∷ []) when ltb last_count count) ∷ []) (date_from (last_year - first_year) first_year count)
