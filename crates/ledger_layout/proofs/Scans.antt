-- The lowest number that satisfies a test, as a loop finds it; the row with a key, and the lowest free row. Assumes nothing.
use Prim.Native.Nat.{ℕ, zero, suc, ◌+◌, ◌≤◌, ◌<◌}
use native.Mathlib.Nat.{not-suc-le-zero, le_of_suc-le-suc, eq-or-lt_of_le, zero-lt-suc, zero-add}
use native.Mathlib.Omega.{arith}
use mathlib.Core.Bool.{Bool, true, false, cond, not, ◌&&◌, ◌||◌, false≢true}
use mathlib.Core.List.{List, [], ◌∷◌}
use mathlib.Core.Logic.{⊎_elim}
use mathlib.Core.Path.{◌≡◌, refl, sym, ap, ◌∙◌}
use lib.Dec.{eqb, ltb, eqb-zero-suc, eqb-suc-suc, leb-zero, leb-suc-suc}
use lib.ListN.{length, get_or}
use borrow.Author.Tests.{lt-ltb, le-ltb, ltb-true, ltb-false, eqb-true}
use Rattle.std.specs.Prelude.{Option, None, Some, MatchOption}
use Rattle.std.specs.Option.{is_some, is_none, IsSome}
use Rattle.std.specs.Bool.{MatchBool}
use Rattle.std.specs.List.{AllWithin, HoldsAt, range_with_len}
use Rattle.std.proofs.lemmas.List.FromFn.{length-range_with_len, get_or-range_with_len}
use Rattle.octets.specs.Octets.{all}
use Rattle.octets.proofs.Laws.{all-each, all-fails}
use Rattle.ledger_model.specs.Book.{Place, free, row, Desk, closed, working, is_open, place_of, place, is_free, has_key, place_with, all_used, lowest_free}
use Rattle.ledger_model.proofs.Basics as Basics
use Rattle.octets.proofs.Lists.{length-table, get_or-table}
use Rattle.ledger_sheet.specs.Sheet.{row_count, row_at, is_used, key_at, first_number_at}
use Rattle.ledger_layout.specs.Ticks.{ticks_in}
use Rattle.ledger_layout.specs.Layout.{place_in, book_of}
use Rattle.ledger_layout.specs.inner.Scans.{lowest, lowest_below, is_row_of, found, opened_row}

-- p is b of each number below i
abbrev pub Each : Bool → (ℕ → Bool) → ℕ → Type 0
Each b p i = (j : ℕ) → j < i → p j ≡ b

abbrev pub Fails : (ℕ → Bool) → ℕ → Type 0
Fails p i = Each false p i

pub each_none : (b : Bool) (p : ℕ → Bool) → Each b p 0
each_none b p j l = absurd (omega arith)

pub each_more : (b : Bool) (p : ℕ → Bool) (i : ℕ) → Each b p i → p i ≡ b → Each b p (i + 1)
each_more b p i h e j l = ⊎_elim (λ (q : j ≡ i). ap p q ∙ e) (λ (q : j < i). h j q) (eq-or-lt_of_le (omega arith))

pub lowest-here : (n i : ℕ) (p : ℕ → Bool) → i < n → Fails p i → p i ≡ true → lowest n p ≡ i
unfolding lowest
lowest-here zero i p l h e = absurd (not-suc-le-zero l)
lowest-here (suc n) zero p l h e = rw e
lowest-here (suc n) (suc i) p l h e =
    rw (h 0 (zero-lt-suc i)) (ap suc (lowest-here n i (λ j. p (suc j)) (le_of_suc-le-suc l) (λ j q. h (suc j) (omega arith)) e))

pub lowest-none : (n : ℕ) (p : ℕ → Bool) → Fails p n → lowest n p ≡ n
unfolding lowest
lowest-none zero p h = refl
lowest-none (suc n) p h = rw (h 0 (zero-lt-suc n)) (ap suc (lowest-none n (λ j. p (suc j)) (λ j q. h (suc j) (omega arith))))

pub lowest-within : (n : ℕ) (p : ℕ → Bool) → lowest n p ≤ n
unfolding lowest
lowest-within zero p = omega arith
lowest-within (suc n) p = by (p 0) (lowest-within n (λ i. p (suc i)))
  where
    by : (b : Bool) → lowest n (λ i. p (suc i)) ≤ n → cond b 0 (suc (lowest n (λ i. p (suc i)))) ≤ suc n
    by true h = omega arith
    by false h = omega arith

pub lowest-same : (n : ℕ) (p q : ℕ → Bool) → ((i : ℕ) → i < n → p i ≡ q i) → lowest n p ≡ lowest n q
unfolding lowest
lowest-same zero p q h = refl
lowest-same (suc n) p q h =
    rw (h 0 (zero-lt-suc n), lowest-same n (λ i. p (suc i)) (λ i. q (suc i)) (λ i l. h (suc i) (omega arith)))

-- the lowest below n, if there is one
pub below_lowest : (n : ℕ) (p : ℕ → Bool) → lowest n p < n → lowest_below n p ≡ Some (lowest n p)
below_lowest n p l = rw (lt-ltb (lowest n p) n l)

pub below_none : (n : ℕ) (p : ℕ → Bool) → n ≤ lowest n p → lowest_below n p ≡ None
below_none n p l = rw (le-ltb (lowest n p) n l)

pub below-is : (n : ℕ) (p : ℕ → Bool) {i : ℕ} → lowest_below n p ≡ Some i → (i ≡ lowest n p) × (i < n)
below-is n p {i} e = by (ltb (lowest n p) n) refl e
  where
    by : (b : Bool) → ltb (lowest n p) n ≡ b → cond b (Some (lowest n p)) None ≡ Some i → (i ≡ lowest n p) × (i < n)
    by true h q = let same : i ≡ lowest n p = cc in (same, omega (arith, ltb-true _ _ h))
    by false h q = cc

pub below-not : (n : ℕ) (p : ℕ → Bool) → lowest_below n p ≡ None → n ≤ lowest n p
below-not n p e = by (ltb (lowest n p) n) refl e
  where
    by : (b : Bool) → ltb (lowest n p) n ≡ b → cond b (Some (lowest n p)) None ≡ None → n ≤ lowest n p
    by true h q = cc
    by false h q = ltb-false _ _ h

-- where the lowest is below n, the test holds there; below it the test fails
pub lowest-holds : (n : ℕ) (p : ℕ → Bool) → lowest n p < n → p (lowest n p) ≡ true
unfolding lowest
lowest-holds zero p l = absurd (not-suc-le-zero l)
lowest-holds (suc n) p l = by (p 0) refl (lowest-holds n (λ i. p (suc i)))
  where
    later : ℕ
    later = lowest n (λ i. p (suc i))

    by : (b : Bool) → p 0 ≡ b → (later < n → p (suc later) ≡ true) → p (cond (p 0) 0 (suc later)) ≡ true
    by true e h = rw e e
    by false e h = rw e (h (le_of_suc-le-suc (rw e at l)))

pub lowest-fails : (n : ℕ) (p : ℕ → Bool) → Fails p (lowest n p)
unfolding lowest
lowest-fails zero p j l = absurd (not-suc-le-zero l)
lowest-fails (suc n) p j l = by (p 0) refl (lowest-fails n (λ i. p (suc i))) j l
  where
    later : ℕ
    later = lowest n (λ i. p (suc i))

    by : (b : Bool) → p 0 ≡ b → Fails (λ i. p (suc i)) later → (k : ℕ) → k < cond (p 0) 0 (suc later) → p k ≡ false
    by true e h k q = absurd (not-suc-le-zero (rw e at q))
    by false e h zero q = e
    by false e h (suc k) q = h k (le_of_suc-le-suc (rw e at q))

-- ---- what the library's searches of a range of numbers find

pub find-lowest : (n : ℕ) (p : ℕ → Bool) (r : Option ℕ)
    → MatchOption r ((k : ℕ) → 0 ≤ k → k < n → p k ≡ false) (λ i. (0 ≤ i) × (i < n) × (p i ≡ true) × ((k : ℕ) → 0 ≤ k → k < i → p k ≡ false))
    → r ≡ lowest_below n p
find-lowest n p None h = rw (lowest-none n p (λ j l. h j (omega arith) l), le-ltb n n (omega arith))
find-lowest n p (Some i) h = rw (lowest-here n i p h.1 (λ j l. h.3 j (omega arith) l) h.2, lt-ltb i n h.1)

pub all-range : (n : ℕ) (p : ℕ → Bool) (r : Bool)
    → MatchBool r (AllWithin (λ i. p i ≡ true) (range_with_len 0 n) 0 (length (range_with_len 0 n)))
    ((k : ℕ) × (k < length (range_with_len 0 n)) × HoldsAt (λ i. p i ≡ false) (range_with_len 0 n) k)
    → r ≡ all n p
all-range n p true h =
    sym (all-each n p (λ k l. rw (get_or-range_with_len 0 n k 0 l, zero-add) at (h k 0 (omega arith) (omega (arith, length-range_with_len 0 n)))))
all-range n p false h =
    let within : h.0 < n = omega (arith, h.1, length-range_with_len 0 n) in
    sym (all-fails n h.0 p within (rw (get_or-range_with_len 0 n h.0 0 within, zero-add) at (h.2 0)))

-- ---- the lowest of a list of places

pub with-law : (key : ℕ) (ps : List Place) → lowest (length ps) (λ i. is_row_of key (get_or ps i free)) ≡ place_with key ps
unfolding lowest place_with
with-law key [] = refl
with-law key (free ∷ ps) = ap suc (with-law key ps)
with-law key (row k first ticks ∷ ps) = ap (λ (m : ℕ). cond (eqb k key) 0 (suc m)) (with-law key ps)

pub free_law : (ps : List Place) → lowest (length ps) (λ i. is_free (get_or ps i free)) ≡ lowest_free ps
unfolding lowest lowest_free
free_law [] = refl
free_law (free ∷ ps) = refl
free_law (row key first ticks ∷ ps) = ap suc (free_law ps)

pub has-law : (key : ℕ) (ps : List Place) → ltb (place_with key ps) (length ps) ≡ has_key key ps
unfolding place_with has_key
has-law key [] = refl
has-law key (free ∷ ps) = rw leb-suc-suc (has-law key ps)
has-law key (row k first ticks ∷ ps) = by (eqb k key) (has-law key ps)
  where
    by : (x : Bool) → ltb (place_with key ps) (length ps) ≡ has_key key ps → ltb (cond x 0 (suc (place_with key ps))) (suc (length ps)) ≡ (x || has_key key ps)
    by true e = rw (leb-suc-suc, leb-zero)
    by false e = rw leb-suc-suc e

pub full-law : (ps : List Place) → eqb (lowest_free ps) (length ps) ≡ all_used ps
unfolding all_used lowest_free
full-law [] = refl
full-law (free ∷ ps) = rw eqb-zero-suc
full-law (row key first ticks ∷ ps) = rw eqb-suc-suc (full-law ps)

-- a number of a row is found, and no other
pub some-found : (i : ℕ) → is_some (found i) ≡ ltb i row_count
some-found i = by (ltb i row_count)
  where
    by : (b : Bool) → is_some (cond b (Some i) None) ≡ b
    by true = refl
    by false = refl

pub found-here : (i : ℕ) → i < row_count → found i ≡ Some i
found-here i l = rw (lt-ltb i row_count l)

pub some-in : (i : ℕ) → i < row_count → IsSome (found i)
some-in i l = rw (found-here i l) refl

pub found-is : (i : ℕ) {r : ℕ} → i < row_count → found i ≡ Some r → r ≡ i
found-is i {r} l e = let h : Some i ≡ Some r = sym (found-here i l) ∙ e in cc

-- the row that an open desk has open; and whether it has another than row r open, or none
pub opened-row : (x : Desk) → is_open x ≡ true → opened_row x ≡ Some (place_of x)
opened-row closed e = absurd (false≢true e)
opened-row (working r opened worked) e = refl

pub opened-is : (x : Desk) {r : ℕ} → is_open x ≡ true → opened_row x ≡ Some r → r ≡ place_of x
opened-is closed e h = absurd (false≢true e)
opened-is (working q opened worked) e h = cc

pub row-opened : (x : Desk) {r : ℕ} → opened_row x ≡ Some r → (is_open x ≡ true) × (r ≡ place_of x)
row-opened closed e = cc
row-opened (working q opened worked) e = (refl, cc)

pub none-opened : (x : Desk) → opened_row x ≡ None → is_open x ≡ false
none-opened closed e = refl
none-opened (working q opened worked) e = cc

pub closed-row : (x : Desk) → is_open x ≡ false → opened_row x ≡ None
closed-row closed e = refl
closed-row (working r opened worked) e = absurd (false≢true (sym e))

-- ---- the places of a sheet's book

pub place-count : (s : List ℕ) → length (book_of s).places ≡ row_count
unfolding book_of
place-count s = length-table row_count (place_in s)

module _ (s : List ℕ) where
  pub with-key : (key : ℕ) → lowest row_count (λ i. is_row_of key (place (book_of s) i)) ≡ place_with key (book_of s).places
  with-key key = rw (place-count s) at (with-law key (book_of s).places)

  pub has-key : (key : ℕ) → ltb (place_with key (book_of s).places) row_count ≡ has_key key (book_of s).places
  has-key key = rw (place-count s) at (has-law key (book_of s).places)

  pub lowest-free : lowest row_count (λ i. is_free (place (book_of s) i)) ≡ lowest_free (book_of s).places
  lowest-free = rw (place-count s) at (free_law (book_of s).places)

  pub is-full : eqb (lowest_free (book_of s).places) row_count ≡ all_used (book_of s).places
  is-full = rw (place-count s) at (full-law (book_of s).places)

  pub free_in : all_used (book_of s).places ≡ false → lowest_free (book_of s).places < row_count
  free_in u = rw (place-count s) at (Basics.lowest (book_of s).places u).in_list

  -- no free row is found exactly where all are used, and no row with a key where no row has it
  pub none-free : is_none (found (lowest_free (book_of s).places)) ≡ all_used (book_of s).places
  none-free = by (all_used (book_of s).places) refl
    where
      by : (t : Bool) → all_used (book_of s).places ≡ t → is_none (found (lowest_free (book_of s).places)) ≡ all_used (book_of s).places
      by true e = rw (e, le-ltb (lowest_free (book_of s).places) row_count (omega (arith, eqb-true _ _ (is-full ∙ e))))
      by false e = rw (e, lt-ltb (lowest_free (book_of s).places) row_count (free_in e))

  pub none-with : (key : ℕ) → found (place_with key (book_of s).places) ≡ None → has_key key (book_of s).places ≡ false
  none-with key e = sym (some-found _ ∙ has-key key) ∙ ap is_some e

  pub some-with : (key : ℕ) {r : ℕ} → found (place_with key (book_of s).places) ≡ Some r
      → (has_key key (book_of s).places ≡ true) × (r ≡ place_with key (book_of s).places)
  some-with key e =
      let h : has_key key (book_of s).places ≡ true = sym (some-found _ ∙ has-key key) ∙ ap is_some e in
      (h, found-is _ (ltb-true _ _ (has-key key ∙ h)) e)

  -- a row by its flag, and its key
  pub free-place : (i : ℕ) → i < row_count → {u : Bool} → u ≡ is_used s i → is_free (place (book_of s) i) ≡ not u
  unfolding book_of place_in
  free-place i l e = rw (e, get_or-table row_count (place_in s) i free l) (by (is_used s i))
    where
      by : (t : Bool) → is_free (cond t (row (key_at s (row_at i)) (first_number_at s (row_at i)) (ticks_in s (row_at i))) free) ≡ not t
      by true = refl
      by false = refl

  pub row_of : (key i : ℕ) → i < row_count → is_row_of key (place (book_of s) i) ≡ (is_used s i && eqb (key_at s (row_at i)) key)
  unfolding book_of place_in
  row_of key i l = rw (get_or-table row_count (place_in s) i free l) (by (is_used s i))
    where
      by : (t : Bool)
          → is_row_of key (cond t (row (key_at s (row_at i)) (first_number_at s (row_at i)) (ticks_in s (row_at i))) free)
          ≡ (t && eqb (key_at s (row_at i)) key)
      by true = refl
      by false = refl
