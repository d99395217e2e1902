-- What a right old sheet holds. Its rows and copies, read as new ones whose used flag stands before their key, are those of its book; and the book is
-- well-formed. Assumes nothing.
use Prim.Native.Nat.{ℕ, ◌+◌, ◌≤◌, ◌<◌}
use native.Mathlib.Nat.{add-zero}
use native.Mathlib.Omega.{arith}
use mathlib.Core.Bool.{Bool, true, false, cond, not, ◌&&◌}
use mathlib.Core.List.{List}
use mathlib.Core.Path.{◌≡◌, refl, ap, ◌∙◌}
use lib.Dec.{ltb}
use lib.ListN.{length, get_or-eq_default}
use borrow.Author.Tests.{ltb-true, ltb-false, lt-ltb, le-ltb, eqb-false, not-true}
use Rattle.laws.proofs.Bools.{and_split}
use Rattle.ledger_model.specs.Positions.{row_length, Positions}
use Rattle.ledger_model.specs.Book.{free, row, Book, place, is_free, with_ticks}
use Rattle.ledger_model.specs.WellFormed.{IsSet, WellFormed}
use Rattle.octets.specs.Octets.{number_at}
use Rattle.octets.proofs.Laws.{Bytes, all-at, length_part}
use Rattle.octets.proofs.Parts.{same-part}
use Rattle.ledger_sheet.specs.Sheet.{key_start, row_size, ticks_at, ticks_size}
use Rattle.ledger_sheet.specs.Sheet as New
use Rattle.ledger_sheet.specs.declared.Row.{Row}
use Rattle.ledger_layout.specs.Ticks.{ticked_at, ticks_in}
use Rattle.octets.specs.Lists.{table}
use Rattle.ledger_layout.specs.Rows.{row_bytes}
use Rattle.ledger_changes.specs.inner.Rows.{row_value_at}
use Rattle.ledger_layout.specs.Layout.{place_bytes}
use Rattle.ledger_layout.proofs.FromParts.{RowsFine, DesksFine, well-formed}
use Rattle.ledger_layout.proofs.Read.{number_same}
use Rattle.octets.proofs.Lists.{length-table, get_or-table, table_is}
use Rattle.ledger_layout.proofs.Ticks.{ticks-bytes}
use Rattle.ledger_sheet.specs.Sheet.{key_size, first_size, row_count, opened_at, desk_count, used}
use Rattle.ledger_convert.specs.Old.{sheet_size, first_at, worked_at}
use Rattle.ledger_convert.specs.Old.{row_at, desk_at, key_at, first_number_at, desk_row, is_closed, carries}
use Rattle.ledger_convert.specs.Old.{valid_keys, different_keys, first_numbers, closed_zero, desk_marked, open_names, desk_right, right}
use Rattle.ledger_convert.specs.Old as Old
use Rattle.ledger_convert.specs.Convert.{old_ticked_at, old_ticks_of, old_place_in, old_desk_in, old_book_of}
use Rattle.ledger_convert.proofs.Clauses.{Right, right-parts, sized}

-- ---- a row or a copy at offset a, read as a new one at offset b

module _ (s : List ℕ) (a b : ℕ) (e : b + key_start ≡ a) where
  pub old-key : New.key_at s b ≡ key_at s a
  old-key = ap (λ (x : ℕ). number_at s x key_size) e

  pub old-first : New.first_number_at s b ≡ first_number_at s a
  old-first = let q : b + New.first_at ≡ a + first_at = omega arith in ap (λ (x : ℕ). number_at s x first_size) q

  pub old-ticks : ticks_in s b ≡ old_ticks_of s a
  unfolding ticks_in ticked_at old_ticks_of
  old-ticks =
      table_is row_length (ticked_at s b) (table row_length (old_ticked_at s a)) false (length-table row_length (old_ticked_at s a)) (λ i l.
      let q : (k : ℕ) → b + New.ticks_at + k ≡ a + Old.ticks_at + k = λ k. omega arith in
      rw (q, get_or-table row_length (old_ticked_at s a) i false l))

  -- the bytes of its value are those of a row with its key, first number and set
  pub old-bytes : Bytes s → b + row_size ≤ length s → (r : Row) → r ≡ row_value_at s b
      → row_bytes r.key r.first r.ticks ≡ place_bytes (row (key_at s a) (first_number_at s a) (old_ticks_of s a))
  unfolding row_value_at place_bytes
  old-bytes bytes l r v = rw (v, old-key, old-first, ← old-ticks, ticks-bytes s b bytes l)

-- the ticks of a value
pub value-ticks : (s : List ℕ) (b : ℕ) (r : Row) → b + row_size ≤ length s → r ≡ row_value_at s b → length r.ticks ≡ ticks_size
unfolding row_value_at
value-ticks s b r l v = rw v (length_part s (b + ticks_at) ticks_size (omega arith))

-- ---- what the clauses of a right old sheet say

pub record Opened (s : List ℕ) (d : ℕ) : Type 0 where
  pub names : desk_row s d < used s
  pub opened-carries : carries s (desk_at d + opened_at) (desk_row s d) ≡ true
  pub worked-carries : carries s (desk_at d + worked_at) (desk_row s d) ≡ true

desk-parts : (s : List ℕ) (d : ℕ) → desk_right s d ≡ true → is_closed s d ≡ false → Opened s d
unfolding desk_right open_names
desk-parts s d h o =
    let h1 = and_split (closed_zero s d && desk_marked s d) (open_names s d) h in
    let row = ltb (desk_row s d) (used s) in
    let opened = carries s (desk_at d + opened_at) (desk_row s d) in
    let h2 = and_split (row && opened) (carries s (desk_at d + worked_at) (desk_row s d)) (rw o at h1.1) in
    let h3 = and_split row opened h2.0 in
    record { names = ltb-true _ _ h3.0; opened-carries = h3.1; worked-carries = h2.1 }

module _ (s : List ℕ) (r : right s ≡ true) where
  abbrev clauses : Right s
  clauses = right-parts s r

  pub few : used s ≤ row_count
  few = (sized s r).few

  pub long : length s ≡ sheet_size
  long = clauses.long

  pub opened : (d : ℕ) → d < desk_count → is_closed s d ≡ false → Opened s d
  opened d l o = desk-parts s d (all-at desk_count d (desk_right s) clauses.desks l) o

  abbrev b : Book
  b = old_book_of s

  -- the places, also those that are not there
  place_at : (i : ℕ) → place b i ≡ old_place_in s i
  unfolding old_book_of old_place_in
  place_at i = by (ltb i row_count) refl
    where
      by : (t : Bool) → ltb i row_count ≡ t → place b i ≡ old_place_in s i
      by true e = get_or-table row_count (old_place_in s) i free (ltb-true _ _ e)
      by false e =
          let past : row_count ≤ i = ltb-false _ _ e in
          rw (le-ltb i (used s) (omega (arith, few))) (get_or-eq_default (table row_count (old_place_in s)) free {n = i} (rw length-table past))

  pub row-at : (i : ℕ) → i < used s → place b i ≡ row (key_at s (row_at i)) (first_number_at s (row_at i)) (old_ticks_of s (row_at i))
  unfolding old_place_in
  row-at i l = place_at i ∙ rw (lt-ltb i (used s) l)

  pub free-at : (i : ℕ) → is_free (place b i) ≡ not (ltb i (used s))
  unfolding old_place_in
  free-at i = rw (place_at i) (by (ltb i (used s)))
    where
      by : (t : Bool) → is_free (cond t (row (key_at s (row_at i)) (first_number_at s (row_at i)) (old_ticks_of s (row_at i))) free) ≡ not t
      by true = refl
      by false = refl

  -- a copy at c that carries the key and the first number of row i
  pub copy_is : (i c : ℕ) → i < used s → c + Old.row_size ≤ sheet_size → carries s c i ≡ true
      → row (key_at s c) (first_number_at s c) (old_ticks_of s c) ≡ with_ticks (old_ticks_of s c) (place b i)
  copy_is i c l h e =
      let same = same-part s (row_at i) s c Old.ticks_at (omega (arith, long, few)) (omega (arith, long)) e in
      let key : key_at s (row_at i) ≡ key_at s c =
      number_same s (row_at i) c Old.ticks_at 0 key_size (row_at i) c same (add-zero (row_at i)) (add-zero c) (omega arith) in
      let first : first_number_at s (row_at i) ≡ first_number_at s c =
      number_same s (row_at i) c Old.ticks_at first_at first_size (row_at i + first_at) (c + first_at) same refl refl (omega arith) in
      rw (row-at i l, key, first)

  -- ---- the book is well-formed

  set_there : (a : ℕ) → IsSet (old_ticks_of s a)
  unfolding old_ticks_of
  set_there a = length-table row_length _

  keys-apart : (i j : ℕ) → i < used s → j < i → key_at s (row_at j) ≡ key_at s (row_at i) → ⊥
  unfolding different_keys
  keys-apart i j l m = eqb-false _ _ (not-true _ (all-at i j _ (all-at (used s) i _ clauses.different l) m))

  abbrev is_used : ℕ → Bool
  is_used i = ltb i (used s)

  abbrev key : ℕ → ℕ
  key i = key_at s (row_at i)

  abbrev first : ℕ → ℕ
  first i = first_number_at s (row_at i)

  rows-fine : RowsFine is_used key first (λ i. old_ticks_of s (row_at i))
  unfolding valid_keys first_numbers
  rows-fine =
      record {
        valid = λ i l e. all-at (used s) i _ clauses.valid (ltb-true _ _ e);
        numbers = λ i l e. ltb-true _ _ (all-at (used s) i _ clauses.firsts (ltb-true _ _ e));
        different = λ i j l e o m. keys-apart i j (ltb-true _ _ e) m;
        sets = λ i. set_there (row_at i);
      }

  abbrev opened_set : ℕ → Positions
  opened_set d = old_ticks_of s (desk_at d + opened_at)

  abbrev worked_set : ℕ → Positions
  worked_set d = old_ticks_of s (desk_at d + worked_at)

  desks-fine : DesksFine is_used key first (λ i. old_ticks_of s (row_at i)) (is_closed s) (desk_row s) opened_set worked_set
  desks-fine =
      record {
        names = λ d l o. let there = (opened d l o).names in (omega (arith, few), lt-ltb _ _ there);
        opened-sets = λ d. set_there (desk_at d + opened_at);
        worked-sets = λ d. set_there (desk_at d + worked_at);
      }

  pub book-fine : WellFormed b
  unfolding old_book_of old_place_in old_desk_in
  book-fine =
      well-formed is_used key first (λ i. old_ticks_of s (row_at i)) (is_closed s) (desk_row s) opened_set worked_set rows-fine desks-fine
