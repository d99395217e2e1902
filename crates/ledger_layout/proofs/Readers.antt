-- What is read from a sheet's bytes is what its book has. Assumes nothing.
use Prim.Native.Nat.{ℕ, zero, suc, ◌+◌, ◌<◌}
use native.Mathlib.Omega.{arith}
use mathlib.Core.Bool.{Bool, true, false, cond, not, ◌&&◌, ◌||◌, and-true, and_assoc}
use mathlib.Core.List.{List, [], ◌∷◌}
use mathlib.Core.Path.{◌≡◌, refl, sym, ap, ◌∙◌}
use lib.Dec.{eqb, ltb}
use lib.ListN.{length, get_or, get_or-eq_default}
use borrow.Author.Tests.{ltb-true, ltb-false, eqb-true}
use Rattle.laws.proofs.Bools.{and_split}
use Rattle.ledger_model.specs.Book.{free, row, Desk, closed, working, place, desk, is_free, is_open, place_of, any_has_open}
use Rattle.octets.specs.Octets.{all, zero_at}
use Rattle.octets.specs.Lists.{table}
use Rattle.octets.proofs.Laws.{all-at}
use Rattle.octets.proofs.Lists.{length-table, get_or-table}
use Rattle.ledger_sheet.specs.Sheet.{row_count, desk_count, desk_size, desk_row_at, opened_at, worked_at, row_at, desk_at, used, is_used, is_row, key_at}
use Rattle.ledger_sheet.specs.Sheet.{first_number_at}
use Rattle.ledger_sheet.specs.Sheet.{desk_row, is_closed, closed_zero, desk_marked, open_names, desk_right, right}
use Rattle.ledger_sheet.proofs.Clauses.{right-parts, row-parts, count-some, open_row}
use Rattle.ledger_layout.specs.Ticks.{ticks_in}
use Rattle.ledger_layout.specs.Layout.{place_in, desk_in, book_of}

-- ---- a row that no desk has open

all-front : (n : ℕ) (p : ℕ → Bool) → all (suc n) p ≡ (p 0 && all n (λ i. p (suc i)))
unfolding all
all-front zero p = sym (and-true (p 0))
all-front (suc n) p = rw (all-front n p) (and_assoc (p 0) _ _)

-- desk x does not have row r open
abbrev pub is_elsewhere : ℕ → Desk → Bool
is_elsewhere r x = not (is_open x) || not (eqb (place_of x) r)

none-law : (r : ℕ) (ds : List Desk) → all (length ds) (λ d. is_elsewhere r (get_or ds d closed)) ≡ not (any_has_open r ds)
unfolding all any_has_open
none-law r [] = refl
none-law r (closed ∷ ds) = all-front (length ds) _ ∙ none-law r ds
none-law r (working q opened worked ∷ ds) = all-front (length ds) _ ∙ rw (none-law r ds) (by (eqb q r))
  where
    by : (x : Bool) → (not x && not (any_has_open r ds)) ≡ not (x || any_has_open r ds)
    by true = refl
    by false = refl

module _ (s : List ℕ) where
  pub none_open : (r : ℕ) → all desk_count (λ d. is_elsewhere r (desk (book_of s) d)) ≡ not (any_has_open r (book_of s).desks)
  unfolding book_of
  none_open r = rw (length-table desk_count (desk_in s)) at (none-law r (book_of s).desks)

  -- ---- rows

  pub row_on : (i : ℕ) → is_row s i ≡ not (is_free (place (book_of s) i))
  unfolding book_of place_in
  row_on i = by (ltb i row_count) refl
    where
      flag : (t : Bool) → t ≡ not (is_free (cond t (row (key_at s (row_at i)) (first_number_at s (row_at i)) (ticks_in s (row_at i))) free))
      flag true = refl
      flag false = refl

      by : (t : Bool) → ltb i row_count ≡ t → is_row s i ≡ not (is_free (place (book_of s) i))
      by true e = rw (e, get_or-table row_count (place_in s) i free (ltb-true _ _ e)) (flag (is_used s i))
      by false e = rw (e, get_or-eq_default (table row_count (place_in s)) free {n = i} (rw length-table (ltb-false _ _ e)))

  -- a row as it is read
  pub row-read-on : (i : ℕ) → is_free (place (book_of s) i) ≡ false
      → place (book_of s) i ≡ row (key_at s (row_at i)) (first_number_at s (row_at i)) (ticks_in s (row_at i))
  unfolding book_of place_in
  row-read-on i f =
      let p = row-parts s i (row_on i ∙ ap not f) in
      get_or-table row_count (place_in s) i free p.0 ∙ rw p.1

  -- a place that is not free is one of the 32, and the header counts it
  pub row-there : (i : ℕ) → is_free (place (book_of s) i) ≡ false → i < row_count
  row-there i f = (row-parts s i (row_on i ∙ ap not f)).0

  pub some-used : (i : ℕ) → right s ≡ true → is_free (place (book_of s) i) ≡ false → 0 < used s
  some-used i r f =
      let p = row-parts s i (row_on i ∙ ap not f) in
      rw (right-parts s r).counted at (count-some row_count i (is_used s) p.0 p.1)

  -- ---- desks

  module _ (d : ℕ) (l : d < desk_count) where
    pub closed_on : is_closed s d ≡ not (is_open (desk (book_of s) d))
    unfolding book_of desk_in
    closed_on = rw (get_or-table desk_count (desk_in s) d closed l) (by (is_closed s d))
      where
        by : (t : Bool)
            → t ≡ not (is_open (cond t closed (working (desk_row s d) (ticks_in s (desk_at d + opened_at)) (ticks_in s (desk_at d + worked_at)))))
        by true = refl
        by false = refl

    -- an open one as it is read
    pub desk-read-on : is_open (desk (book_of s) d) ≡ true
        → desk (book_of s) d ≡ working (desk_row s d) (ticks_in s (desk_at d + opened_at)) (ticks_in s (desk_at d + worked_at))
    unfolding book_of desk_in
    desk-read-on o =
        let open-there : is_closed s d ≡ false = closed_on ∙ ap not o in
        get_or-table desk_count (desk_in s) d closed l ∙ rw open-there

    -- the row that it names; where it is closed, 0
    pub named-on : right s ≡ true → desk_row s d ≡ place_of (desk (book_of s) d)
    unfolding book_of desk_in desk_right closed_zero zero_at
    named-on r = rw (get_or-table desk_count (desk_in s) d closed l) (by (is_closed s d) refl)
      where
        by : (t : Bool) → is_closed s d ≡ t
            → desk_row s d ≡ place_of
            (cond (is_closed s d) closed (working (desk_row s d) (ticks_in s (desk_at d + opened_at)) (ticks_in s (desk_at d + worked_at))))
        by true e =
            let All-right = all-at desk_count d (desk_right s) (right-parts s r).desks l in
            let zero = (and_split (closed_zero s d) (desk_marked s d) (and_split (closed_zero s d && desk_marked s d) (open_names s d) All-right).0).0 in
            rw e (eqb-true _ _ (all-at desk_size desk_row_at _ (rw e at zero) (omega arith)))
        by false e = rw e

    -- an open one names a row that there is
    pub place-in : right s ≡ true → is_open (desk (book_of s) d) ≡ true → place_of (desk (book_of s) d) < row_count
    place-in r o = rw (named-on r) at (row-parts s (desk_row s d) (open_row s d r l (closed_on ∙ ap not o))).0
