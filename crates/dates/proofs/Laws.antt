-- Laws of dates: how the counts of 1 January grow, that a day count and its date determine each other, and in which year a day count lies.
-- Assumes nothing.
use Prim.Native.Nat.{ℕ, zero, suc, ◌+◌, ◌-◌, ◌<◌, ◌≤◌}
use native.Mathlib.Nat.{add-zero, le_refl}
use native.Mathlib.Omega.{arith}
use mathlib.Core.Path.{◌≡◌, refl}
use mathlib.Core.Bool.{Bool, true, false, cond, false≢true}
use mathlib.Core.List.{[], ◌∷◌}
use lib.Dec.{leb, ltb}
use borrow.Author.Tests.{ltb-true, ltb-false, leb-true, leb-false, lt-ltb, le-ltb, le-leb}
use Rattle.laws.proofs.Bools.{and_split}
use Rattle.refusals.specs.Judge.{judge}
use Rattle.refusals.specs.Words.{Different}
use Rattle.refusals.proofs.Words.{answers-differ}
use Rattle.dates.specs.Calendar.{first_year, last_year, is_leap, year_length, days_of_years, new_year, is_year, is_day, is_date, day_count, date_from, date_of}
use Rattle.dates.specs.inner.Within.{Within}
use Rattle.dates.specs.Laws.{BackFromCount, ForthFromBack, EveryCount, RefusedPast, NewYear1958, NewYear3000, Since1958, WordsInjective}
use Rattle.dates.specs.declared.Date.{Date}
use Rattle.dates.specs.Answers.{values_of}

-- ---- the request's numbers

pub new-year-1900 : new_year 1900 ≡ 0
unfolding new_year days_of_years
new-year-1900 = refl

pub new-year-1958 : NewYear1958
unfolding new_year days_of_years year_length is_leap
new-year-1958 = refl

pub new-year-3000 : NewYear3000
unfolding new_year days_of_years year_length is_leap
new-year-3000 = refl

-- The first day past the table's years.
pub new-year-3001 : new_year 3001 ≡ 402132
unfolding new_year days_of_years year_length is_leap
new-year-3001 = refl

-- ---- years

-- A year has 365 or 366 days.
pub year-length : (year : ℕ) → (365 ≤ year_length year) × (year_length year ≤ 366)
unfolding year_length
year-length year = at (is_leap year)
  where
    at : (leap : Bool) → (365 ≤ cond leap 366 365) × (cond leap 366 365 ≤ 366)
    at true = omega arith
    at false = omega arith

pub next-new-year : (year : ℕ) → 1900 ≤ year → new_year (year + 1) ≡ new_year year + year_length year
unfolding new_year days_of_years
next-new-year year h =
    let e : year + 1 - 1900 ≡ suc (year - 1900) = omega arith in
    let f : 1900 + (year - 1900) ≡ year = omega arith in
    rw (e, f)

later : (year n : ℕ) → 1900 ≤ year → new_year year ≤ new_year (year + n)
later year zero h = rw add-zero (le_refl _)
later year (suc n) h =
    let e : year + suc n ≡ year + n + 1 = omega arith in
    rw e (omega (arith, later year n h, next-new-year (year + n) (omega arith)))

pub new-years-grow : (year other : ℕ) → 1900 ≤ year → year ≤ other → new_year year ≤ new_year other
new-years-grow year other h l = let e : year + (other - year) ≡ other = omega arith in rw e at (later year (other - year) h)

pub new-year-top : (year : ℕ) → 1900 ≤ year → year ≤ 3000 → new_year year ≤ 401767
new-year-top year h l = omega (arith, new-years-grow year 3000 h l, new-year-3000)

-- ---- dates

pub record IsDate (year day : ℕ) : Type 0 where
  pub first : first_year ≤ year
  pub last : year ≤ last_year
  pub counted : 1 ≤ day
  pub within : day ≤ year_length year

pub date-is : (year day : ℕ) → is_date year day ≡ true → IsDate year day
unfolding is_date is_year is_day
date-is year day e =
    let z = and_split (is_year year) (is_day year day) e in
    let y = and_split (leb first_year year) (leb year last_year) z.0 in
    let d = and_split (leb 1 day) (leb day (year_length year)) z.1 in
    record { first = leb-true _ _ y.0; last = leb-true _ _ y.1; counted = leb-true _ _ d.0; within = leb-true _ _ d.1 }

pub is-date : (year day : ℕ) → IsDate year day → is_date year day ≡ true
unfolding is_date is_year is_day
is-date year day d =
    rw (le-leb first_year year d.first, le-leb year last_year d.last, le-leb 1 day d.counted, le-leb day (year_length year) d.within)

-- A date's count falls in its year.
pub count-within : (year day : ℕ) → IsDate year day → Within year (day_count year day)
unfolding day_count
count-within year day d =
    record { first = d.first; last = d.last; begun = omega (arith, d.counted); on = omega (arith, d.counted, d.within, next-new-year year d.first) }

-- A count that falls in one of the years is none past the last day of 3000.
pub within-last : (year count : ℕ) → Within year count → count ≤ 402131
within-last year count w = omega (arith, w.on, w.last, new-years-grow (year + 1) 3001 (omega (arith, w.first)) (omega (arith, w.last)), new-year-3001)

-- The day in the year of a count that falls there.
pub day-within : (year count : ℕ) → Within year count → IsDate year (count - new_year year + 1)
day-within year count w =
    record {
      first = w.first;
      last = w.last;
      counted = omega arith;
      within = omega (arith, w.begun, w.on, next-new-year year w.first);
    }

-- ---- going back

-- The walk from a year's 1 January reaches the year that the count falls in.
walk : (more year other count : ℕ) → 1900 ≤ year → year ≤ other → other ≤ year + more → new_year other ≤ count → count < new_year (other + 1)
    → date_from more year (count - new_year year) ≡ 0 ∷ other ∷ (count - new_year other + 1) ∷ []
unfolding date_from
walk zero year other count a b c d e = let q : year ≡ other = omega arith in rw q
walk (suc more) year other count a b c d e =
    at (ltb year other) refl (λ l. walk more (year + 1) other count (omega arith) (omega arith) (omega arith) d e)
  where
    at : (t : Bool) → ltb year other ≡ t
        → (year < other → date_from more (year + 1) (count - new_year (year + 1)) ≡ 0 ∷ other ∷ (count - new_year other + 1) ∷ [])
        → date_from (suc more) year (count - new_year year) ≡ 0 ∷ other ∷ (count - new_year other + 1) ∷ []
    at true t on =
        let l = ltb-true year other t in
        let n = next-new-year year a in
        let g = new-years-grow (year + 1) other (omega arith) (omega arith) in
        let s : count - new_year year - year_length year ≡ count - new_year (year + 1) = omega arith in
        rw (le-ltb (count - new_year year) (year_length year) (omega arith), s) (on l)
    at false t on =
        let l = ltb-false year other t in
        let q : year ≡ other = omega arith in
        rw (q, lt-ltb (count - new_year other) (year_length other) (omega (arith, next-new-year other (omega arith))))

pub date-within : (year count : ℕ) → Within year count → date_of count ≡ 0 ∷ year ∷ (count - new_year year + 1) ∷ []
unfolding date_of judge
date-within year count w =
    let s : count - new_year 1900 ≡ count = omega (arith, new-year-1900) in
    let e = walk 1100 1900 year count (omega arith) w.first (omega (arith, w.last)) w.begun w.on in
    rw (le-ltb 402131 count (within-last year count w)) (rw s at e)

-- Back from the day count of a date is the date.
pub back-from-count : BackFromCount
unfolding day_count
back-from-count year day e =
    let d = date-is year day e in
    let s : new_year year + day - 1 - new_year year + 1 ≡ day = omega (arith, d.counted) in
    rw s at (date-within year (new_year year + day - 1) (count-within year day d))

-- Every count up to the last day of 3000 falls in one of the years.
pub record Found (count : ℕ) : Type 0 where
  pub year : ℕ
  pub falls : Within year count

found : (k count : ℕ) → k ≤ 1100 → count < new_year (1900 + k + 1) → Found count
found zero count a b = record { year = 1900; falls = record { first = omega arith; last = omega arith; begun = omega (arith, new-year-1900); on = b } }
found (suc k) count a b = at (leb (new_year (1900 + suc k)) count) refl (λ l. found k count (omega arith) l)
  where
    at : (t : Bool) → leb (new_year (1900 + suc k)) count ≡ t → (count < new_year (1900 + k + 1) → Found count) → Found count
    at true t on = record { year = 1900 + suc k; falls = record { first = omega arith; last = omega arith; begun = leb-true _ _ t; on = b } }
    at false t on =
        let e : 1900 + suc k ≡ 1900 + k + 1 = omega arith in
        on (rw e at (leb-false (new_year (1900 + suc k)) count t))

pub find : (count : ℕ) → count ≤ 402131 → Found count
find count h = found 1100 count (omega arith) (omega (arith, new-year-3001))

-- A count up to the last day of 3000 has a date, and the day count of that date is the count.
pub count-from-back : EveryCount
unfolding day_count
count-from-back count h =
    let f = find count h in
    let y = f.year in
    let w = f.falls in
    record {
      year = y;
      day = count - new_year y + 1;
      back = date-within y count w;
      date = is-date y (count - new_year y + 1) (day-within y count w);
      forth = omega (arith, w.begun);
    }

-- A count past it is refused.
pub refused : RefusedPast
unfolding date_of judge
refused count h = rw (lt-ltb 402131 count h)

-- So where going back answers a year and a day, they are a date, and their day count is the count.
pub forth-from-back : ForthFromBack
forth-from-back count year day e = at (ltb 402131 count) refl
  where
    at : (t : Bool) → ltb 402131 count ≡ t → (is_date year day ≡ true) × (day_count year day ≡ count)
    at true t = let r = refused count (ltb-true _ _ t) in absurd (false≢true cc)
    at false t =
        let d = count-from-back count (ltb-false _ _ t) in
        let y : d.year ≡ year = cc d.back in
        let n : d.day ≡ day = cc d.back in
        (rw (y, n) at d.date, rw (y, n) at d.forth)

-- A telemetry record's days have a date.
pub since-1958 : Since1958
since-1958 days h = count-from-back (new_year 1958 + days) (omega (arith, new-year-1958))

-- ---- answers

same : (a b c d : ℕ) → a ≡ c → b ≡ d → (λ (x y : Date). x ≡ y) (record { year = a; day = b }) (record { year = c; day = d })
same a b c d e f = cc

values-differ : Different values_of
values-differ x y e = same x.year x.day y.year y.day (cc e) (cc e)

-- Different answers have different words.
pub words-injective : WordsInjective
words-injective = answers-differ values_of values-differ

-- ---- worked

-- 31 December 2000, the 366th day of a leap year, the last day that a telemetry record can name, and the last day of 3000.
pub end-of-2000 : date_of 36889 ≡ 0 ∷ 2000 ∷ 366 ∷ []
unfolding date_of date_from year_length is_leap judge
end-of-2000 = refl

pub last-since-1958 : date_of (21184 + 65535) ≡ 0 ∷ 2137 ∷ 157 ∷ []
unfolding date_of date_from year_length is_leap judge
last-since-1958 = refl

pub end-of-3000 : date_of 402131 ≡ 0 ∷ 3000 ∷ 365 ∷ []
unfolding date_of date_from year_length is_leap judge
end-of-3000 = refl
