-- The year of a count by the mean of 400 years. Assumes nothing.
use Prim.Native.Nat.{ℕ, zero, suc, ◌+◌, ◌*◌, ◌-◌, ◌<◌, ◌≤◌}
use native.Mathlib.Omega.{arith}
use mathlib.Core.Path.{◌≡◌, refl}
use mathlib.Core.Bool.{Bool, true, false}
use lib.Dec.{leb}
use borrow.Author.Tests.{leb-true, leb-false}
use Rattle.dates.specs.Calendar.{first_year, last_year, last_count, new_year}
use Rattle.dates.specs.inner.Within.{Within}
use Rattle.dates.proofs.Computed.{Quotient, near-mean}
use Rattle.dates.proofs.Laws.{new-year-1900, new-year-3001, new-years-grow}

-- The mean's bounds of the new year after so many years.
near : (k : ℕ) → (146097 * k ≤ 400 * new_year (first_year + k) + 496) × (400 * new_year (first_year + k) ≤ 146097 * k + 599)
unfolding new_year
near k =
    let e : first_year + k - first_year ≡ k = omega arith in
    rw e (near-mean k)

-- A year that begins by the last day of 3000 is none after it.
no-later : (year : ℕ) → new_year year ≤ last_count → year ≤ last_year
no-later year h = at (leb year last_year) refl
  where
    at : (t : Bool) → leb year last_year ≡ t → year ≤ last_year
    at true t = leb-true year last_year t
    at false t =
        let late = leb-false year last_year t in
        absurd (omega (arith, h, new-years-grow 3001 year (omega arith) late, new-year-3001))

-- The mean gives k years: where their new year is not past the count, the count falls there.
pub mean-year : (count k : ℕ) → Quotient (count * 400 + 496) 146097 k → count ≤ last_count → new_year (first_year + k) ≤ count
    → Within (first_year + k) count
mean-year count k q h b =
    let next : first_year + k + 1 ≡ first_year + (k + 1) = omega arith in
    record {
      first = omega arith;
      last = no-later (first_year + k) (omega (arith, b, h));
      begun = b;
      on = rw next (omega (arith, q.high, (near (k + 1)).0));
    }

-- The new year of a year after 3000 is past every count.
pub past-table : (count k : ℕ) → count ≤ last_count → 1101 ≤ k → count < new_year (first_year + k)
past-table count k h l = omega (arith, new-years-grow 3001 (first_year + k) (omega arith) (omega arith), new-year-3001)

-- That of 1900 is past none.
pub not_first : (count k : ℕ) → count < new_year (first_year + k) → 1 ≤ k
not_first count zero b = absurd (omega (arith, b, new-year-1900))
not_first count (suc k) b = omega arith

-- Where it is past the count, the count falls in the year before.
pub mean-before : (count k : ℕ) → Quotient (count * 400 + 496) 146097 k → count ≤ last_count → count < new_year (first_year + k)
    → Within (first_year + (k - 1)) count
mean-before count zero q h b = absurd (omega (arith, not_first count zero b))
mean-before count (suc k) q h b =
    let before : suc k - 1 ≡ k = omega arith in
    let begun : new_year (first_year + k) ≤ count = omega (arith, q.low, (near k).1) in
    let next : first_year + k + 1 ≡ first_year + suc k = omega arith in
    rw before
    (record {
      first = omega arith;
      last = no-later (first_year + k) (omega (arith, begun, h));
      begun = begun;
      on = rw next b;
    })
