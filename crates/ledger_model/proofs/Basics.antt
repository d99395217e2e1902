-- Facts about the book's tests, and about places and desks in their lists. Assumes nothing.
use Rattle.std.proofs.Common.{◌≡◌, ℕ, zero, suc, ◌<◌, ◌≤◌, true, false, eqb, ◌≢◌, List, [], ◌∷◌, length, get_or, set, replicate, sym, refl, ap, ◌∙◌}
use Rattle.std.proofs.Common.{true≢false, suc-le-suc, zero-le, zero-lt-suc, get_or-set_other, get_or-set_same, ltb-true, eq-eqb}
use native.Mathlib.Decide.{ℕ_discrete}
use mathlib.Core.Bool.{false≢true, or-true}
use lib.Seq.{set-get_or}
use borrow.Author.Tests.{eqb-false}
use Rattle.laws.proofs.Bools.{and_split, or-neither, beq-true}
use Rattle.ledger_model.specs.Positions.{Positions, same}
use Rattle.ledger_model.specs.Book.{Place, free, row, Desk, closed, working, is_free, is_desk, all_used, lowest_free, any_has_open}

-- ---- tests

-- ---- sets are the same exactly when the test says so

pub same_true : (s t : Positions) → same s t ≡ true → s ≡ t
unfolding same
same_true [] [] e = refl
same_true [] (y ∷ t) e = cc
same_true (x ∷ s) [] e = cc
same_true (x ∷ s) (y ∷ t) e = let h = and_split _ _ e in cc (beq-true x y h.0, same_true s t h.1)

pub same_refl : (s : Positions) → same s s ≡ true
unfolding same
same_refl [] = refl
same_refl (true ∷ s) = same_refl s
same_refl (false ∷ s) = same_refl s

-- ---- places

-- The lowest free place is in the list, is free, and is the lowest.
pub record Lowest (ps : List Place) (r : ℕ) : Type 0 where
  pub in_list : r < length ps
  pub is_free_lem : get_or ps r free ≡ free
  pub least : (i : ℕ) → is_free (get_or ps i free) ≡ true → r ≤ i

pub lowest : (ps : List Place) → all_used ps ≡ false → Lowest ps (lowest_free ps)
unfolding all_used lowest_free
lowest [] e = absurd (true≢false e)
lowest (free ∷ ps) e = record { in_list = zero-lt-suc _; is_free_lem = refl; least = λ i h. zero-le }
lowest (row key first ticks ∷ ps) e =
    let l = lowest ps e in
    record { in_list = suc-le-suc l.in_list; is_free_lem = l.is_free_lem; least = above l }
  where
    above : Lowest ps (lowest_free ps) → (i : ℕ) → is_free (get_or (row key first ticks ∷ ps) i free) ≡ true → suc (lowest_free ps) ≤ i
    above l zero g = absurd (false≢true g)
    above l (suc i) g = suc-le-suc (l.least i g)

-- A place with a row is not a free one.
pub row-not-free : (ps : List Place) (r q key first : ℕ) (s : Positions) → get_or ps r free ≡ row key first s
    → get_or ps q free ≡ free → r ≢ q
row-not-free ps r q key first s h e p = false≢true cc

-- A place that has a row is one of the list.
pub row_in : (ps : List Place) (r : ℕ) {key first : ℕ} {s : Positions} → get_or ps r free ≡ row key first s → r < length ps
row_in [] r e = absurd (false≢true cc)
row_in (p ∷ ps) zero e = zero-lt-suc _
row_in (p ∷ ps) (suc r) e = suc-le-suc (row_in ps r e)

-- A place that is not free has a row.
pub record HasRow (p : Place) : Type 0 where
  pub key : ℕ
  pub first : ℕ
  pub ticks : Positions
  pub is : p ≡ row key first ticks

pub has-row : (p : Place) → is_free p ≡ false → HasRow p
has-row free e = absurd (true≢false e)
has-row (row key first ticks) e = record { key = key; first = first; ticks = ticks; is = refl }

-- Where no desk has place r open, a desk with a place open has another.
pub not-open : (xs : List Desk) (r d q : ℕ) (opened worked : Positions) → any_has_open r xs ≡ false → get_or xs d closed ≡ working q opened worked → q ≢ r
unfolding any_has_open
not-open [] r d q opened worked n e p = false≢true cc
not-open (closed ∷ xs) r zero q opened worked n e p = false≢true cc
not-open (closed ∷ xs) r (suc d) q opened worked n e p = not-open xs r d q opened worked n e p
not-open (working q' o' w' ∷ xs) r zero q opened worked n e p = let s : q' ≡ r = cc in eqb-false q' r (or-neither _ _ n).0 s
not-open (working q' o' w' ∷ xs) r (suc d) q opened worked n e p = not-open xs r d q opened worked (or-neither (eqb q' r) _ n).1 e p

pub has-open : (xs : List Desk) (d r : ℕ) (opened worked : Positions) → get_or xs d closed ≡ working r opened worked → any_has_open r xs ≡ true
unfolding any_has_open
has-open [] d r opened worked e = cc
has-open (closed ∷ xs) zero r opened worked e = cc
has-open (closed ∷ xs) (suc d) r opened worked e = has-open xs d r opened worked e
has-open (working q o w ∷ xs) zero r opened worked e = let p : q ≡ r = cc in rw (eq-eqb q r p)
has-open (working q o w ∷ xs) (suc d) r opened worked e = rw (has-open xs d r opened worked e) (or-true (eqb q r))

-- ---- lists with one element put

module _ {A : Type 0} (z : A) where
  -- Element i, read back after x was put there. What is not in the list is z.
  pub put_back : (P : A → Type 0) (xs : List A) (i : ℕ) (x : A) → P x → P z → P (get_or (set xs i x) i z)
  put_back P [] i x p q = q
  put_back P (y ∷ xs) zero x p q = p
  put_back P (y ∷ xs) (suc i) x p q = put_back P xs i x p q

  pub read-replicate : (n i : ℕ) → get_or (replicate n z) i z ≡ z
  read-replicate zero i = refl
  read-replicate (suc n) zero = refl
  read-replicate (suc n) (suc i) = read-replicate n i

  -- A property of every element, after x was put: of x at i, and as before at the others.
  pub put_all : (K : ℕ → A → Type 0) (xs : List A) (i : ℕ) (x : A) → K i z → K i x
      → ((j : ℕ) → j ≢ i → K j (get_or xs j z)) → (j : ℕ) → K j (get_or (set xs i x) j z)
  put_all K xs i x c k others j = at (ℕ_discrete j i)
    where
      at : Dec (j ≡ i) → K j (get_or (set xs i x) j z)
      at (yes q) = rw q (put_back (K i) xs i x k c)
      at (no n) = rw (get_or-set_other xs i j x z n) (others j n)

  -- What is read of an element is the same everywhere, if it is the same of x and of the element that x replaces.
  pub put_same : {B : Type 0} (f : A → B) (xs : List A) (i : ℕ) (x : A) → f x ≡ f (get_or xs i z)
      → (j : ℕ) → f (get_or (set xs i x) j z) ≡ f (get_or xs j z)
  put_same f [] i x e j = refl
  put_same f (y ∷ xs) zero x e zero = e
  put_same f (y ∷ xs) zero x e (suc j) = refl
  put_same f (y ∷ xs) (suc i) x e zero = refl
  put_same f (y ∷ xs) (suc i) x e (suc j) = put_same f xs i x e j

-- ---- the desks of a book with no desk open

pub idle-desk : (n d : ℕ) → get_or (replicate n closed) d closed ≡ closed
idle-desk n d = read-replicate closed n d

pub idle-close : (n d : ℕ) → set (replicate n closed) d closed ≡ replicate n closed
idle-close n d = ap (set (replicate n closed) d) (sym (idle-desk n d)) ∙ set-get_or (replicate n closed) d closed

pub at-desk : (d : ℕ) (x : Desk) → is_desk d ≡ true → get_or (set (replicate 8 closed) d x) d closed ≡ x
at-desk d x t = get_or-set_same (replicate 8 closed) d x closed (ltb-true d 8 t)
