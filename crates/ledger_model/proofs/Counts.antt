-- Laws of the counts: what is missing and what is the lowest, position by position; bounds; and how a tick or untick changes the count. Assumes nothing.
use Rattle.std.proofs.Common.{◌≡◌, ℕ, zero, suc, ◌+◌, ◌<◌, ◌≤◌, Bool, true, false, not, ◌&&◌, List, [], ◌∷◌, length, get_or, set, sym, refl, ap, suc-le-suc}
use Rattle.std.proofs.Common.{zero-le, zero-lt-suc, arith}
use mathlib.Core.Bool.{false≢true}
use mathlib.Core.Option.{Option, none, some, map, none-ne-some}
use Rattle.laws.proofs.Bools.{and_split}
use Rattle.ledger_model.specs.Positions.{Positions, has, size, any_ticked, missing, least, position_number}
use Rattle.ledger_model.specs.Book.{Place, free, row}
use Rattle.ledger_model.specs.Counts.{gap_or, first_gap_from}

-- ---- bounds

pub size-bound : (s : Positions) → size s ≤ length s
unfolding size
size-bound [] = zero-le
size-bound (true ∷ s) = suc-le-suc (size-bound s)
size-bound (false ∷ s) = omega (arith, size-bound s)

pub length-missing : (s : Positions) → length (missing s) ≡ length s
unfolding missing
length-missing [] = refl
length-missing (x ∷ s) = ap suc (length-missing s)

size-cons : (x : Bool) (s : Positions) → size (x ∷ s) ≤ suc (size s)
unfolding size
size-cons true s = omega arith
size-cons false s = omega arith

-- Ticked and missing positions together are at most the row's.
pub size-missing : (s : Positions) → size s + size (missing s) ≤ length s
unfolding size missing
size-missing [] = zero-le
size-missing (true ∷ s) = omega (arith, size-missing s)
size-missing (false ∷ s) = omega (arith, size-missing s, size-cons (any_ticked s) (missing s))

-- ---- what is missing

-- A position above i is ticked.
pub record TickedAbove (s : Positions) (i : ℕ) : Type 0 where
  pub higher : ℕ
  pub above : i < higher
  pub ticked : has s higher ≡ true

record Ticked (s : Positions) : Type 0 where
  where-at : ℕ
  is-ticked : has s where-at ≡ true

ticked-any : (s : Positions) → any_ticked s ≡ true → Ticked s
unfolding any_ticked
ticked-any [] e = absurd (false≢true e)
ticked-any (true ∷ s) e = record { where-at = zero; is-ticked = refl }
ticked-any (false ∷ s) e = let k = ticked-any s e in record { where-at = suc k.where-at; is-ticked = k.is-ticked }

any-ticked : (s : Positions) (i : ℕ) → has s i ≡ true → any_ticked s ≡ true
unfolding any_ticked
any-ticked [] i e = cc
any-ticked (true ∷ s) i e = refl
any-ticked (false ∷ s) zero e = cc
any-ticked (false ∷ s) (suc i) e = any-ticked s i e

not-ticked : (x : Bool) → not x ≡ true → x ≡ false
not-ticked true e = sym e
not-ticked false e = refl

-- A position is missing exactly when it is unticked and a higher one is ticked.
pub missing-unticked : (s : Positions) (i : ℕ) → has (missing s) i ≡ true → has s i ≡ false
unfolding missing
missing-unticked [] i e = cc
missing-unticked (x ∷ s) zero e = not-ticked x (and_split (not x) (any_ticked s) e).0
missing-unticked (x ∷ s) (suc i) e = missing-unticked s i e

pub missing-below : (s : Positions) (i : ℕ) → has (missing s) i ≡ true → TickedAbove s i
unfolding missing
missing-below [] i e = absurd (false≢true e)
missing-below (x ∷ s) zero e =
    let k = ticked-any s (and_split (not x) (any_ticked s) e).1 in
    record { higher = suc k.where-at; above = zero-lt-suc _; ticked = k.is-ticked }
missing-below (x ∷ s) (suc i) e =
    let k = missing-below s i e in record { higher = suc k.higher; above = suc-le-suc k.above; ticked = k.ticked }

pub missing_at_lem : (s : Positions) (i : ℕ) → has s i ≡ false → TickedAbove s i → has (missing s) i ≡ true
unfolding missing
missing_at_lem [] i u k = cc
missing_at_lem (x ∷ s) zero u k = at k.higher k.above k.ticked
  where
    at : (j : ℕ) → zero < j → has (x ∷ s) j ≡ true → (not x && any_ticked s) ≡ true
    at zero h t = absurd (omega arith)
    at (suc j) h t = rw (u, any-ticked s j t)
missing_at_lem (x ∷ s) (suc i) u k = missing_at_lem s i u (at k.higher k.above k.ticked)
  where
    at : (j : ℕ) → suc i < j → has (x ∷ s) j ≡ true → TickedAbove s i
    at zero h t = absurd (omega arith)
    at (suc j) h t = record { higher = j; above = omega arith; ticked = t }

-- ---- the lowest

pub record LeastIs (s : Positions) (i : ℕ) : Type 0 where
  pub is-in : has s i ≡ true
  pub none_below : (j : ℕ) → j < i → has s j ≡ false

pub least-is : (s : Positions) (i : ℕ) → least s ≡ some i → LeastIs s i
unfolding least
least-is [] i e = absurd (none-ne-some i e)
least-is (true ∷ s) i e = let q : zero ≡ i = cc in rw (← q) (record { is-in = refl; none_below = λ j h. absurd (omega arith) })
least-is (false ∷ s) i e = at (least s) (least-is s) e
  where
    at : (o : Option ℕ) → ((m : ℕ) → o ≡ some m → LeastIs s m) → map suc o ≡ some i → LeastIs (false ∷ s) i
    at none ih g = absurd (none-ne-some i g)
    at (some m) ih g =
        let q : suc m ≡ i = cc in
        let l = ih m refl in
        rw (← q) (record { is-in = l.is-in; none_below = below l })
      where
        below : LeastIs s m → (j : ℕ) → j < suc m → has (false ∷ s) j ≡ false
        below l zero h = refl
        below l (suc j) h = l.none_below j (omega arith)

-- There is no lowest exactly where the set is empty.
pub least-none : (s : Positions) → least s ≡ none → size s ≡ 0
unfolding least size
least-none [] e = refl
least-none (true ∷ s) e = cc
least-none (false ∷ s) e = at (least s) (least-none s) e
  where
    at : (o : Option ℕ) → (o ≡ none → size s ≡ 0) → map suc o ≡ none → size s ≡ 0
    at none ih g = ih refl
    at (some m) ih g = cc

pub none-least : (s : Positions) → size s ≡ 0 → least s ≡ none
unfolding least size
none-least [] e = refl
none-least (true ∷ s) e = absurd (omega arith)
none-least (false ∷ s) e = ap (map suc) (none-least s e)

-- ---- one tick more or less

pub size-tick : (s : Positions) (i : ℕ) → i < length s → has s i ≡ false → size (set s i true) ≡ suc (size s)
unfolding size
size-tick [] i h e = absurd (omega arith)
size-tick (true ∷ s) zero h e = cc
size-tick (false ∷ s) zero h e = refl
size-tick (true ∷ s) (suc i) h e = ap suc (size-tick s i (omega arith) e)
size-tick (false ∷ s) (suc i) h e = size-tick s i (omega arith) e

pub size-untick : (s : Positions) (i : ℕ) → has s i ≡ true → suc (size (set s i false)) ≡ size s
unfolding size
size-untick [] i e = cc
size-untick (true ∷ s) zero e = refl
size-untick (false ∷ s) zero e = cc
size-untick (true ∷ s) (suc i) e = ap suc (size-untick s i e)
size-untick (false ∷ s) (suc i) e = size-untick s i e

-- ---- the first gap

-- Nothing is missing in a place.
abbrev pub NoGap : Place → Type 0
NoGap free = Unit {0}
NoGap (row key first ticks) = least (missing ticks) ≡ none

-- The first gap of places counted from r on: none in any place; or the lowest missing number of place i, and none before.
pub data Gap (r : ℕ) (ps : List Place) : List ℕ → Type 0 where
  no_gap : ((j : ℕ) → NoGap (get_or ps j free)) → Gap r ps []
  gap_at : (i key first : ℕ) (ticks : Positions) (p : ℕ) → get_or ps i free ≡ row key first ticks → least (missing ticks) ≡ some p
      → ((j : ℕ) → j < i → NoGap (get_or ps j free)) → (q : ℕ) → q ≡ r + i → Gap r ps (position_number key first p ∷ q ∷ [])

-- A place without a gap, before the others.
gap-after : (r : ℕ) (p : Place) (ps : List Place) → NoGap p → {words : List ℕ} → Gap (suc r) ps words → Gap r (p ∷ ps) words
gap-after r p ps n (no_gap f) = no_gap all
  where
    all : (j : ℕ) → NoGap (get_or (p ∷ ps) j free)
    all zero = n
    all (suc j) = f j
gap-after r p ps n (gap_at i key first ticks k e l f q h) = gap_at (suc i) key first ticks k e l below q (omega arith)
  where
    below : (j : ℕ) → j < suc i → NoGap (get_or (p ∷ ps) j free)
    below zero b = n
    below (suc j) b = f j (omega arith)

pub first-gap : (r : ℕ) (ps : List Place) → Gap r ps (first_gap_from r ps)
unfolding first_gap_from
first-gap r [] = no_gap (λ j. tt)
first-gap r (free ∷ ps) = gap-after r free ps tt (first-gap (suc r) ps)
first-gap r (row key first ticks ∷ ps) = at (least (missing ticks)) refl (first-gap (suc r) ps)
  where
    at : (o : Option ℕ) → least (missing ticks) ≡ o → Gap (suc r) ps (first_gap_from (suc r) ps)
        → Gap r (row key first ticks ∷ ps) (gap_or key first r o (first_gap_from (suc r) ps))
    at none e g = gap-after r (row key first ticks) ps e g
    at (some p) e g = gap_at zero key first ticks p refl e (λ j h. absurd (omega arith)) r (omega arith)
