-- Counts of a list of flags, from what a search finds: how many are ticked, the end of the ticks, and the lowest unticked position below it.
-- Assumes nothing.
use Prim.Native.Nat.{ℕ, zero, suc, ◌+◌, ◌≤◌, ◌<◌}
use native.Mathlib.Nat.{not-suc-le-zero, le_of_suc-le-suc, zero-lt-suc, add_comm, eq-or-lt_of_le}
use native.Mathlib.Numerals.{add-one}
use native.Mathlib.Omega.{arith}
use mathlib.Core.Bool.{Bool, true, false, not, cond, ◌&&◌, true≢false, or-true}
use mathlib.Core.List.{List, [], ◌∷◌}
use mathlib.Core.Logic.{◌⊎◌, inl, inr}
use mathlib.Core.Option.{none, some, map}
use mathlib.Core.Path.{◌≡◌, refl, sym, ap, ◌∙◌}
use Rattle.ledger_model.specs.Positions.{size, any_ticked, missing, least}
use Rattle.octets.specs.Lists.{table}
use Rattle.ledger_layout.proofs.Scans.{Each, Fails}
use Rattle.ledger_counts.proofs.Highest.{Top}

-- ---- one position more

pub size-cons : (x : Bool) (s : List Bool) → size (x ∷ s) ≡ cond x 1 0 + size s
unfolding size
size-cons true s = omega arith
size-cons false s = omega arith

size-next : (n : ℕ) (p : ℕ → Bool) → size (table (suc n) p) ≡ size (table n p) + cond (p n) 1 0
unfolding table
size-next zero p = size-cons (p 0) [] ∙ add_comm (cond (p 0) 1 0) (size [])
size-next (suc n) p =
    let here = size-cons (p 0) (table (suc n) (λ i. p (suc i))) in
    let there = size-cons (p 0) (table n (λ i. p (suc i))) in
    let rest = size-next n (λ i. p (suc i)) in
    omega arith

pub size-more : (n : ℕ) (p : ℕ → Bool) → size (table (n + 1) p) ≡ size (table n p) + cond (p n) 1 0
size-more n p = rw add-one (size-next n p)

pub size_none : (p : ℕ → Bool) → size (table 0 p) ≡ 0
unfolding table size
size_none p = refl

-- ---- where nothing is ticked, nothing is missing

any_none : (n : ℕ) (p : ℕ → Bool) → Fails p n → any_ticked (table n p) ≡ false
unfolding table any_ticked
any_none zero p h = refl
any_none (suc n) p h = rw (h 0 (zero-lt-suc n)) (any_none n (λ i. p (suc i)) (λ j l. h (suc j) (omega arith)))

any_some : (n k : ℕ) (p : ℕ → Bool) → k < n → p k ≡ true → any_ticked (table n p) ≡ true
unfolding table any_ticked
any_some zero k p l e = absurd (not-suc-le-zero l)
any_some (suc n) zero p l e = rw e
any_some (suc n) (suc k) p l e = rw (any_some n k (λ i. p (suc i)) (le_of_suc-le-suc l) e) (or-true (p 0))

record Nothing (s : List Bool) : Type 0 where
  ticked : size s ≡ 0
  gaps : size (missing s) ≡ 0
  lowest : least (missing s) ≡ none

nothing : (n : ℕ) (p : ℕ → Bool) → Fails p n → Nothing (table n p)
unfolding table size missing least
nothing zero p h = record { ticked = refl; gaps = refl; lowest = refl }
nothing (suc n) p h =
    let later : Fails (λ i. p (suc i)) n = λ j l. h (suc j) (omega arith) in
    let rest = nothing n (λ i. p (suc i)) later in
    let here = h 0 (zero-lt-suc n) in
    let none = any_none n (λ i. p (suc i)) later in
    record {
      ticked = rw here rest.ticked;
      gaps = rw (here, none) rest.gaps;
      lowest = rw (here, none) (ap (map suc) rest.lowest);
    }

-- ---- ticked from r on, and nowhere below

pub size-from : (n r : ℕ) (p : ℕ → Bool) → r ≤ n → Fails p r → ((i : ℕ) → r ≤ i → i < n → p i ≡ true) → size (table n p) + r ≡ n
size-from zero r p l f h = omega (arith, size_none p)
size-from (suc n) r p l f h = by (eq-or-lt_of_le l) (λ q. size-from n r p q f (λ i g k. h i g (omega arith)))
  where
    by : (r ≡ suc n) ⊎ (r < suc n) → (r ≤ n → size (table n p) + r ≡ n) → size (table (suc n) p) + r ≡ suc n
    by (inl e) rest = omega (arith, e, (nothing (suc n) p (rw e at f)).ticked)
    by (inr q) rest =
        let more = rw (h n (le_of_suc-le-suc q) (omega arith)) at (size-next n p) in
        omega (arith, more, rest (le_of_suc-le-suc q))

-- ---- a position below the highest ticked one is missing exactly when it is unticked

-- the positions after the first
pub after_first : (n t : ℕ) (p : ℕ → Bool) → Top (suc n) p (suc t) → Top n (λ i. p (suc i)) t
after_first n t p top =
    let w = top.within in
    record {
      within = omega arith;
      above = λ i h l. top.above (suc i) (omega arith) (omega arith);
      last = λ k e. top.last (suc k) (ap suc e);
    }

-- an unticked first position has a ticked one after it
pub ticked-after : (n t : ℕ) (p : ℕ → Bool) → Top (suc n) p (suc t) → p 0 ≡ false → any_ticked (table n (λ i. p (suc i))) ≡ true
ticked-after n zero p top e = absurd (true≢false (sym (top.last 0 refl) ∙ e))
ticked-after n (suc k) p top e = let w = top.within in any_some n k (λ i. p (suc i)) (omega arith) (top.last (suc k) refl)

-- ticked and missing positions are all those below the end
pub missing-count : (n t : ℕ) (p : ℕ → Bool) → Top n p t → size (table n p) + size (missing (table n p)) ≡ t
unfolding table size missing
missing-count zero t p top = let w = top.within in omega arith
missing-count (suc n) zero p top =
    let none = nothing (suc n) p (λ j l. top.above j (omega arith) l) in omega (arith, none.ticked, none.gaps)
missing-count (suc n) (suc t) p top = by (p 0) refl (missing-count n t (λ i. p (suc i)) (after_first n t p top))
  where
    rest : List Bool
    rest = table n (λ i. p (suc i))

    by : (b : Bool) → p 0 ≡ b → size rest + size (missing rest) ≡ t → size (p 0 ∷ rest) + size ((not (p 0) && any_ticked rest) ∷ missing rest) ≡ suc t
    by true e h = rw e (omega arith)
    by false e h = rw (e, ticked-after n t p top e) (omega arith)

-- the lowest missing one is the lowest unticked one below the end
pub missing-lowest : (n t i : ℕ) (p : ℕ → Bool) → Top n p t → i < t → Each true p i → p i ≡ false
    → least (missing (table n p)) ≡ some i
unfolding table missing least
missing-lowest zero t i p top l h e = let w = top.within in absurd (omega arith)
missing-lowest (suc n) zero i p top l h e = absurd (not-suc-le-zero l)
missing-lowest (suc n) (suc t) zero p top l h e = rw (e, ticked-after n t p top e)
missing-lowest (suc n) (suc t) (suc i) p top l h e =
    let later = missing-lowest n t i (λ j. p (suc j)) (after_first n t p top) (le_of_suc-le-suc l) (λ j q. h (suc j) (omega arith)) e in
    rw (h 0 (zero-lt-suc i)) (ap (map suc) later)

-- where all below the end are ticked, none is missing
pub missing-none : (n t : ℕ) (p : ℕ → Bool) → Top n p t → Each true p t → least (missing (table n p)) ≡ none
unfolding table missing least
missing-none zero t p top h = refl
missing-none (suc n) zero p top h = (nothing (suc n) p (λ j l. top.above j (omega arith) l)).lowest
missing-none (suc n) (suc t) p top h =
    rw (h 0 (zero-lt-suc t)) (ap (map suc) (missing-none n t (λ j. p (suc j)) (after_first n t p top) (λ j q. h (suc j) (omega arith))))
