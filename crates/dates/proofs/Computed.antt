-- The day count of 1 January, computed: 365 days for each year, and one for each leap year. The leap years are every fourth year, less every
-- hundredth, plus every four hundredth. Assumes nothing.
use Prim.Native.Nat.{ℕ, zero, suc, ◌+◌, ◌*◌, ◌-◌, ◌/◌, ◌%◌, ◌<◌, ◌≤◌}
use native.Mathlib.Nat.{div-add-mod', div-eq_of_lt-le, mod-lt}
use native.Mathlib.Omega.{arith}
use mathlib.Core.Path.{◌≡◌, refl}
use mathlib.Core.Bool.{Bool, true, false, cond, not, ◌&&◌, ◌||◌, false≢true}
use lib.Dec.{eqb}
use borrow.Author.Tests.{eqb-true, eqb-false, eq-eqb}
use Rattle.dates.specs.Calendar.{first_year, is_leap, year_length, days_of_years, new_year}

-- One where the test holds.
abbrev one-if : Bool → ℕ
one-if b = cond b 1 0

-- A quotient grows by one at each multiple of the divisor.
quotient-before : (m y q : ℕ) → q * m ≡ suc y → 0 < m → q ≡ y / m + 1
quotient-before m y zero e h = absurd (omega (arith, e))
quotient-before m y (suc p) e h =
    let same : y / m ≡ p = div-eq_of_lt-le m (omega (arith, e, h)) (omega (arith, e)) in
    omega (arith, same)

next-quotient : (m y : ℕ) → 0 < m → suc y / m ≡ y / m + one-if (eqb (suc y % m) 0)
next-quotient m y h = at (eqb (suc y % m) 0) refl
  where
    at : (t : Bool) → eqb (suc y % m) 0 ≡ t → suc y / m ≡ y / m + one-if t
    at true t =
        let none = eqb-true (suc y % m) 0 t in
        quotient-before m y (suc y / m) (omega (arith, div-add-mod' (suc y) m, none)) h
    at false t =
        let some = eqb-false (suc y % m) 0 t in
        let whole = div-add-mod' (suc y) m in
        let same : y / m ≡ suc y / m = div-eq_of_lt-le m (omega (arith, whole, some)) (omega (arith, whole, mod-lt (suc y) h)) in
        omega (arith, same)

-- Every hundredth year is a fourth, and every four hundredth a hundredth: so a leap year's day is counted once.
leap-day : (four hundred cycle : Bool) → (hundred ≡ true → four ≡ true) → (cycle ≡ true → hundred ≡ true)
    → cond (four && (not hundred || cycle)) 366 365 + one-if hundred ≡ 365 + one-if four + one-if cycle
leap-day true true true h c = refl
leap-day true true false h c = refl
leap-day true false true h c = absurd (false≢true (c refl))
leap-day true false false h c = refl
leap-day false true cycle h c = absurd (false≢true (h refl))
leap-day false false true h c = absurd (false≢true (c refl))
leap-day false false false h c = refl

fourth : (y : ℕ) → eqb (y % 100) 0 ≡ true → eqb (y % 4) 0 ≡ true
fourth y h = eq-eqb (y % 4) 0 (omega (arith, eqb-true (y % 100) 0 h))

hundredth : (y : ℕ) → eqb (y % 400) 0 ≡ true → eqb (y % 100) 0 ≡ true
hundredth y h = eq-eqb (y % 100) 0 (omega (arith, eqb-true (y % 400) 0 h))

-- One year more.
one_more : (y : ℕ) → year_length (suc y) + suc y / 100 + y / 4 + y / 400 ≡ 365 + suc y / 4 + suc y / 400 + y / 100
unfolding year_length is_leap
one_more y =
    let day = leap-day (eqb (suc y % 4) 0) (eqb (suc y % 100) 0) (eqb (suc y % 400) 0) (fourth (suc y)) (hundredth (suc y)) in
    rw (next-quotient 100 y (omega arith), next-quotient 4 y (omega arith), next-quotient 400 y (omega arith)) (omega (arith, day))

-- The sums of one year more, with the quotients by name.
added : (days long k four hundred cycle four' hundred' cycle' : ℕ)
    → days + hundred + 460 ≡ 365 * k + four + cycle → long + hundred' + four + cycle ≡ 365 + four' + cycle' + hundred
    → days + long + hundred' + 460 ≡ 365 * suc k + four' + cycle'
added days long k four hundred cycle four' hundred' cycle' h e = omega (arith, h, e)

days : (k : ℕ) → days_of_years k + (1899 + k) / 100 + 460 ≡ 365 * k + (1899 + k) / 4 + (1899 + k) / 400
unfolding days_of_years
days zero = refl
days (suc k) =
    let e : suc (1899 + k) ≡ 1900 + k = omega arith in
    let f : 1899 + suc k ≡ 1900 + k = omega arith in
    rw f (rw e at (added _ _ k _ _ _ _ _ _ (days k) (one_more (1899 + k))))

pub computed : (year : ℕ) → first_year ≤ year
    → new_year year + (year - 1) / 100 + 460 ≡ 365 * (year - first_year) + (year - 1) / 4 + (year - 1) / 400
unfolding new_year
computed year h =
    let e : 1899 + (year - first_year) ≡ year - 1 = omega arith in
    rw e at (days (year - first_year))

-- The same with what is taken off on the other side.
pub taken-off : (days years four cycle hundred : ℕ) → days + hundred + 460 ≡ 365 * years + four + cycle → hundred ≤ four + cycle
    → 460 ≤ four + cycle - hundred → years * 365 + (four + cycle - hundred - 460) ≡ days
taken-off days years four cycle hundred e h l = omega (arith, e, h, l)

-- A quotient's bounds.
pub record Quotient (y m q : ℕ) : Type 0 where
  pub low : q * m ≤ y
  pub high : y < q * m + m

pub quotient : (m y : ℕ) → 0 < m → Quotient y m (y / m)
quotient m y h = let whole = div-add-mod' y m in record { low = omega (arith, whole); high = omega (arith, whole, mod-lt y h) }

-- A new year stands by the mean of 400 years, which have 146,097 days, to within two days.
near : (k days four hundred cycle : ℕ) → Quotient (1899 + k) 4 four → Quotient (1899 + k) 100 hundred → Quotient (1899 + k) 400 cycle
    → days + hundred + 460 ≡ 365 * k + four + cycle → (146097 * k ≤ 400 * days + 496) × (400 * days ≤ 146097 * k + 599)
near k days four hundred cycle f h c e = omega (arith, f, h, c, e)

pub near-mean : (k : ℕ) → (146097 * k ≤ 400 * days_of_years k + 496) × (400 * days_of_years k ≤ 146097 * k + 599)
near-mean k =
    let y = 1899 + k in
    near k (days_of_years k) (y / 4) (y / 100) (y / 400) (quotient 4 y (omega arith)) (quotient 100 y (omega arith)) (quotient 400 y (omega arith)) (days k)
