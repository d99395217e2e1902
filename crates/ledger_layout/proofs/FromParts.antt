-- A book made of rows and desks that are read one by one: one law for the sheet and the old sheet. Assumes nothing.
use Prim.Native.Nat.{ℕ, ◌<◌}
use native.Mathlib.Omega.{arith}
use mathlib.Core.Bool.{Bool, true, false, cond}
use mathlib.Core.Option.{some}
use mathlib.Core.Path.{◌≡◌, refl, sym, ap, ◌∙◌}
use lib.Dec.{ltb}
use lib.ListN.{get_or-eq_default}
use borrow.Author.Tests.{ltb-true, ltb-false}
use Rattle.keys.specs.Key.{valid_key}
use Rattle.keys.specs.Numbers.{modulus}
use Rattle.ledger_model.specs.Positions.{Positions}
use Rattle.ledger_model.specs.Book.{Place, free, row, Desk, closed, working, Book, place, desk, is_free}
use Rattle.ledger_model.specs.WellFormed.{IsSet, PlaceOk, DeskOk, key_of, WellFormed}
use Rattle.octets.specs.Lists.{table}
use Rattle.octets.proofs.Lists.{length-table, get_or-table}
use Rattle.ledger_sheet.specs.Sheet.{row_count, desk_count}

-- Row i: whether it is used, its key, its first number and its set.
module _ (used : ℕ → Bool) (key first : ℕ → ℕ) (ticks : ℕ → Positions) where
  -- What a book needs of its rows.
  pub record RowsFine : Type 0 where
    pub valid : (i : ℕ) → i < row_count → used i ≡ true → valid_key (key i) ≡ true
    pub numbers : (i : ℕ) → i < row_count → used i ≡ true → first i < modulus (key i)
    pub different : (i j : ℕ) → i < row_count → used i ≡ true → used j ≡ true → j < i → key j ≡ key i → ⊥
    pub sets : (i : ℕ) → IsSet (ticks i)

  -- Desk d: whether it is closed, the row that it names, and its two sets.
  module _ (shut : ℕ → Bool) (named : ℕ → ℕ) (opened worked : ℕ → Positions) where
    -- What a book needs of its desks.
    pub record DesksFine : Type 0 where
      pub names : (d : ℕ) → d < desk_count → shut d ≡ false → (named d < row_count) × (used (named d) ≡ true)
      pub opened-sets : (d : ℕ) → IsSet (opened d)
      pub worked-sets : (d : ℕ) → IsSet (worked d)

    abbrev place_from : ℕ → Place
    place_from i = cond (used i) (row (key i) (first i) (ticks i)) free

    abbrev desk_from : ℕ → Desk
    desk_from d = cond (shut d) closed (working (named d) (opened d) (worked d))

    abbrev book : Book
    book = record { places = table row_count place_from; desks = table desk_count desk_from }

    pub row_from : (i : ℕ) → i < row_count → used i ≡ true → place book i ≡ row (key i) (first i) (ticks i)
    row_from i l e = get_or-table row_count place_from i free l ∙ rw e

    -- a place is a used row, or free
    by_place : (P : Place → Type 0) (i : ℕ) → (i < row_count → used i ≡ true → P (row (key i) (first i) (ticks i))) → P free → P (place book i)
    by_place P i f g = by (ltb i row_count) refl (used i) refl
      where
        by : (t : Bool) → ltb i row_count ≡ t → (u : Bool) → used i ≡ u → P (place book i)
        by true e true o = let l = ltb-true _ _ e in rw (row_from i l o) (f l o)
        by true e false o = rw (get_or-table row_count place_from i free (ltb-true _ _ e), o) g
        by false e u o = rw (get_or-eq_default (table row_count place_from) free {n = i} (rw length-table (ltb-false _ _ e))) g

    module _ (rows : RowsFine) (desks : DesksFine) where
      place-fine : (i : ℕ) → PlaceOk (place book i)
      place-fine i = by_place PlaceOk i (λ l e. (rows.valid i l e, rows.numbers i l e, rows.sets i)) tt

      desk-fine : (d : ℕ) → DeskOk book.places (desk book d)
      desk-fine d = by (ltb d desk_count) refl (shut d) refl
        where
          by : (t : Bool) → ltb d desk_count ≡ t → (u : Bool) → shut d ≡ u → DeskOk book.places (desk book d)
          by false e u o = rw (get_or-eq_default (table desk_count desk_from) closed {n = d} (rw length-table (ltb-false _ _ e))) tt
          by true e true o = rw (get_or-table desk_count desk_from d closed (ltb-true _ _ e), o) tt
          by true e false o =
              let l = ltb-true _ _ e in
              let there = desks.names d l o in
              rw (get_or-table desk_count desk_from d closed l, o)
              (ap is_free (row_from (named d) there.0 there.1), desks.opened-sets d, desks.worked-sets d)

      keys-fine : (i j k : ℕ) → key_of (place book i) ≡ some k → key_of (place book j) ≡ some k → i ≡ j
      keys-fine i j k =
          by_place (λ p. key_of p ≡ some k → key_of (place book j) ≡ some k → i ≡ j) i
          (λ li ui ei. by_place (λ p. key_of p ≡ some k → i ≡ j) j (λ lj uj ej. same li ui lj uj (cc)) (λ ej. cc))
          (λ ei ej. cc)
        where
          same : i < row_count → used i ≡ true → j < row_count → used j ≡ true → key i ≡ key j → i ≡ j
          same li ui lj uj e = by (ltb i j) refl (ltb j i) refl
            where
              by : (t : Bool) → ltb i j ≡ t → (u : Bool) → ltb j i ≡ u → i ≡ j
              by true p u q = absurd (rows.different j i lj uj ui (ltb-true _ _ p) e)
              by false p true q = absurd (rows.different i j li ui uj (ltb-true _ _ q) (sym e))
              by false p false q = let x = ltb-false i j p in let y = ltb-false j i q in omega arith

      pub well-formed : WellFormed book
      well-formed =
          record {
            places_count = length-table row_count place_from;
            desks-count = length-table desk_count desk_from;
            place_ok = place-fine;
            desk_ok = desk-fine;
            keys_differ = keys-fine;
          }
