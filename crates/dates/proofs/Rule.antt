-- The rule of the table of new years, proved for all entries by one test that antt computes: the first entry is 0, and each other one is a year's
-- length above the one before. Assumes nothing.
use Prim.Native.Nat.{ℕ, zero, suc, ◌+◌, ◌-◌, ◌<◌}
use native.Mathlib.Nat.{add-zero, zero-add, add-suc, suc-add, le_of_suc-le-suc, not-suc-le-zero}
use native.Mathlib.Omega.{arith}
use mathlib.Core.Path.{◌≡◌, refl}
use mathlib.Core.Bool.{Bool, true, ◌&&◌}
use mathlib.Core.List.{List, [], ◌∷◌}
use lib.Dec.{eqb}
use lib.ListN.{length, get_or}
use borrow.Author.Tests.{eqb-true}
use Rattle.laws.proofs.Bools.{and_split}
use Rattle.dates.specs.Calendar.{first_year, year_length, days_of_years, new_year}
use Rattle.dates.specs.Table.{NewYears}

-- THE TEST: the entries after that of the k-th year from 1900, which is `before`, go on by the leap rule.
unfoldable pub goes_on : (k before : ℕ) → List ℕ → Bool
goes_on k before [] = true
goes_on k before (x ∷ xs) = eqb x (before + year_length (first_year + k)) && goes_on (suc k) x xs

-- The days of one year more.
next : (k : ℕ) → days_of_years (suc k) ≡ days_of_years k + year_length (first_year + k)
unfolding days_of_years
next k = refl

-- What goes on by the rule from a year's number has each year's.
on : (k x : ℕ) (xs : List ℕ) → x ≡ days_of_years k → goes_on k x xs ≡ true → (i : ℕ) → i < length (x ∷ xs) → get_or (x ∷ xs) i 0 ≡ days_of_years (k + i)
unfolding goes_on
on k x xs e t zero h = rw add-zero e
on k x [] e t (suc i) h = absurd (not-suc-le-zero (le_of_suc-le-suc h))
on k x (y ∷ ys) e t (suc i) h =
    let both = and_split (eqb y (x + year_length (first_year + k))) (goes_on (suc k) y ys) t in
    let later : y ≡ days_of_years (suc k) = rw (next k, ← e) (eqb-true _ _ both.0) in
    rw (add-suc k i, ← suc-add k i) (on (suc k) y ys later both.1 i (le_of_suc-le-suc h))

first : 0 ≡ days_of_years 0
unfolding days_of_years
first = refl

-- So 1,101 entries that begin with 0 and go on by the rule are the table.
pub by-the-rule : (xs : List ℕ) → goes_on 0 0 xs ≡ true → length xs ≡ 1100 → NewYears (0 ∷ xs)
unfolding new_year
by-the-rule xs t l =
    record {
      years = omega (arith, l);
      entry = λ year a b. rw zero-add at (on 0 0 xs first t (year - first_year) (omega (arith, l)));
    }
