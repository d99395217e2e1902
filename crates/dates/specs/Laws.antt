-- What holds of all dates and day counts. proofs/Laws.antt proves it. Assumes nothing.
-- The manual, docs/INTERFACE.md: "Dates".
use Rattle.std.specs.Prelude.{ℕ, ◌+◌, ◌<◌, ◌≤◌, true, [], ◌∷◌, ◌≡◌}
use Rattle.refusals.specs.Words.{Different}
use Rattle.dates.specs.Calendar.{last_count, new_year, is_date, day_count, date_of}
use Rattle.dates.specs.Answers.{words_of}

-- The date of a date's day count is that date.
abbrev pub BackFromCount : Type 0
BackFromCount = (year day : ℕ) → is_date year day ≡ true → date_of (day_count year day) ≡ 0 ∷ year ∷ day ∷ []

-- If a count has a date, that is a date of the calendar, and its day count is the count.
abbrev pub ForthFromBack : Type 0
ForthFromBack = (count year day : ℕ) → date_of count ≡ 0 ∷ year ∷ day ∷ [] → (is_date year day ≡ true) × (day_count year day ≡ count)

-- A count has a date: `date_of` gives it, it is a date of the calendar, and its day count is the count.
pub record Dated (count : ℕ) : Type 0 where
  pub year : ℕ
  pub day : ℕ
  pub back : date_of count ≡ 0 ∷ year ∷ day ∷ []
  pub date : is_date year day ≡ true
  pub forth : day_count year day ≡ count

-- Every count up to the last day of 3000 has a date; `date_of` refuses every other.
abbrev pub EveryCount : Type 0
EveryCount = (count : ℕ) → count ≤ last_count → Dated count

abbrev pub RefusedPast : Type 0
RefusedPast = (count : ℕ) → last_count < count → date_of count ≡ 33 ∷ []

-- Two numbers that request 01 gives: 1 January 1958, and 1 January 3000.
abbrev pub NewYear1958 : Type 0
NewYear1958 = new_year 1958 ≡ 21184

abbrev pub NewYear3000 : Type 0
NewYear3000 = new_year 3000 ≡ 401767

-- A telemetry record counts its days from 1 January 1958 in 16 bits. Every such day has a date.
abbrev pub Since1958 : Type 0
Since1958 = (days : ℕ) → days < 65536 → Dated (new_year 1958 + days)

-- Different answers have different words.
abbrev pub WordsInjective : Type 0
WordsInjective = Different words_of
