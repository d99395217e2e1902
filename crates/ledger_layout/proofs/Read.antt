-- A right sheet is the layout of the book that it holds, and that book is well-formed. Assumes nothing.
use Prim.Native.Nat.{ℕ, ◌+◌, ◌*◌, ◌<◌, ◌≤◌}
use native.Mathlib.Nat.{add-zero}
use native.Mathlib.Omega.{arith}
use mathlib.Core.Bool.{Bool, true, false, cond, not, ◌&&◌, ◌||◌}
use mathlib.Core.List.{List, [], ◌∷◌, ◌++◌}
use mathlib.Core.Path.{◌≡◌, refl, sym, ap, ◌∙◌}
use lib.Dec.{eqb, leb}
use lib.ListN.{length, get_or}
use lib.Seq.{drop-cons}
use borrow.Author.Tests.{ltb-true, lt-ltb, leb-true, eqb-true, eqb-false, not-true}
use Rattle.laws.proofs.Bools.{and_split}
use Rattle.keys.specs.Key.{valid_key}
use Rattle.keys.specs.Numbers.{is_number}
use Rattle.ledger_model.specs.Positions.{row_length, Positions}
use Rattle.ledger_model.specs.Book.{free, row, Book, place, is_free, with_ticks}
use Rattle.ledger_model.specs.WellFormed.{IsSet, WellFormed}
use Rattle.octets.specs.Octets.{number_at, bytes_of, part, all, zero_at}
use Rattle.octets.proofs.Laws.{Bytes, all-at}
use Rattle.octets.proofs.Parts.{bytes-number, part_join, part-whole, zero-part, same-part}
use Rattle.ledger_sheet.specs.Sheet.{sheet_size, used_flag_size, key_start, key_size, first_at, first_size, ticks_at, row_size, row_count, rows_start}
use Rattle.ledger_sheet.specs.Sheet.{desk_row_at, desk_zeros_at, desk_zeros_size, opened_at, worked_at, desk_size, desk_count, desks_start}
use Rattle.ledger_sheet.specs.Sheet.{header_number_size, length_at}
use Rattle.ledger_sheet.specs.Sheet.{used_at, row_count_at, rows_start_at, desk_count_at, desks_start_at, row_at, desk_at, header_number, used, is_used}
use Rattle.ledger_sheet.specs.Sheet.{is_row, key_at, first_number_at, desk_byte, desk_row, is_closed, carries, header_right, valid_keys, is_new}
use Rattle.ledger_sheet.specs.Sheet.{different_keys, first_numbers, free_zero, closed_zero, desk_marked, open_names, desk_right, right}
use Rattle.ledger_layout.specs.Ticks.{ticks_in}
use Rattle.ledger_layout.specs.Bytes.{header_bytes, open_desk}
use Rattle.ledger_sheet.proofs.Clauses.{Right, right-parts, row-parts}
use Rattle.ledger_layout.specs.Layout.{place_bytes, desk_bytes, count_used, layout, place_in, desk_in, book_of}
use Rattle.ledger_layout.proofs.FromParts.{RowsFine, DesksFine, well-formed}
use Rattle.ledger_layout.proofs.Parts.{number-within}
use Rattle.octets.proofs.Lists.{length-table, get_or-table, laid_table}
use Rattle.ledger_layout.proofs.Rows.{row-there}
use Rattle.ledger_layout.proofs.Used.{count_law}

-- ---- parts of a list, joined

module _ (s : List ℕ) where
  join : (a m b n k : ℕ) {x y : List ℕ} → x ≡ part s a m → y ≡ part s b n → a + m ≡ b → m + n ≡ k → x ++ y ≡ part s a k
  join a m b n k ex ey e q = rw (ex, ey) (part_join s a m b n k e q)

  part-one : (a : ℕ) → a < length s → part s a 1 ≡ get_or s a 0 ∷ []
  unfolding part
  part-one a l = rw (drop-cons s a 0 l)

  -- a number is the same in equal parts
  pub number_same : (a c m j n x y : ℕ) → part s a m ≡ part s c m → a + j ≡ x → c + j ≡ y → j + n ≤ m → number_at s x n ≡ number_at s y n
  number_same a c m j n x y e p q l =
      sym (number-within s a m j n x p l) ∙ ap (λ (t : List ℕ). number_at t j n) e ∙ number-within s c m j n y q l

-- ---- what the clauses of `right` say

record Header (s : List ℕ) : Type 0 where
  size : header_number s length_at ≡ sheet_size
  rows : header_number s row_count_at ≡ row_count
  rows_start_lem : header_number s rows_start_at ≡ rows_start
  desks : header_number s desk_count_at ≡ desk_count
  desks-start : header_number s desks_start_at ≡ desks_start

header-parts : (s : List ℕ) → header_right s ≡ true → Header s
unfolding header_right
header-parts s h =
    let size = eqb (header_number s length_at) sheet_size in
    let rows = eqb (header_number s row_count_at) row_count in
    let start = eqb (header_number s rows_start_at) rows_start in
    let desks = eqb (header_number s desk_count_at) desk_count in
    let h4 = and_split (size && rows && start && desks) (eqb (header_number s desks_start_at) desks_start) h in
    let h3 = and_split (size && rows && start) desks h4.0 in
    let h2 = and_split (size && rows) start h3.0 in
    let h1 = and_split size rows h2.0 in
    record {
      size = eqb-true _ _ h1.0;
      rows = eqb-true _ _ h1.1;
      rows_start_lem = eqb-true _ _ h2.1;
      desks = eqb-true _ _ h3.1;
      desks-start = eqb-true _ _ h4.1;
    }

record Opened (s : List ℕ) (d : ℕ) : Type 0 where
  is_one : desk_byte s d ≡ 1
  zeros : zero_at s (desk_at d + desk_zeros_at) desk_zeros_size ≡ true
  names : is_row s (desk_row s d) ≡ true
  opened-carries : carries s (desk_at d + opened_at) (desk_row s d) ≡ true
  worked-carries : carries s (desk_at d + worked_at) (desk_row s d) ≡ true

desk-parts : (s : List ℕ) (d : ℕ) → desk_right s d ≡ true → is_closed s d ≡ false → Opened s d
unfolding desk_right desk_marked open_names
desk-parts s d h o =
    let h1 = and_split (closed_zero s d && desk_marked s d) (open_names s d) h in
    let marked = and_split (leb (desk_byte s d) 1) _ (and_split (closed_zero s d) (desk_marked s d) h1.0).1 in
    let row = is_row s (desk_row s d) in
    let opened = carries s (desk_at d + opened_at) (desk_row s d) in
    let h2 = and_split (row && opened) (carries s (desk_at d + worked_at) (desk_row s d)) (rw o at h1.1) in
    let h3 = and_split row opened h2.0 in
    let most : desk_byte s d ≤ 1 = leb-true _ _ marked.0 in
    let some_byte : desk_byte s d ≡ 0 → ⊥ = eqb-false _ _ o in
    record {
      is_one = omega arith;
      zeros = marked.1;
      names = h3.0;
      opened-carries = h3.1;
      worked-carries = h2.1;
    }

module _ (s : List ℕ) (bytes : Bytes s) (r : right s ≡ true) where
  abbrev clauses : Right s
  clauses = right-parts s r

  long : length s ≡ sheet_size
  long = clauses.long

  -- ---- the header

  number : (a v : ℕ) → a + header_number_size ≤ sheet_size → header_number s a ≡ v → bytes_of header_number_size v ≡ part s a header_number_size
  number a v l e = ap (bytes_of header_number_size) (sym e) ∙ bytes-number s a header_number_size bytes (omega (arith, long))

  header-there : header_bytes (used s) ≡ part s 0 rows_start
  unfolding header_bytes
  header-there =
      let h = header-parts s clauses.header in
      let w = header_number_size in
      join s 0 desks_start_at desks_start_at w rows_start
      (join s 0 desk_count_at desk_count_at w desks_start_at
      (join s 0 rows_start_at rows_start_at w desk_count_at
      (join s 0 row_count_at row_count_at w rows_start_at
      (join s 0 used_at used_at w row_count_at (number length_at sheet_size (omega arith) h.size) (number used_at (used s) (omega arith) refl) refl refl)
      (number row_count_at row_count (omega arith) h.rows) refl refl)
      (number rows_start_at rows_start (omega arith) h.rows_start_lem) refl refl)
      (number desk_count_at desk_count (omega arith) h.desks) refl refl)
      (number desks_start_at desks_start (omega arith) h.desks-start) refl refl

  -- ---- the rows

  place-there : (i : ℕ) → i < row_count → place_bytes (place_in s i) ≡ part s (row_at i) row_size
  unfolding place_bytes place_in free_zero
  place-there i l = by (is_used s i) refl
    where
      by : (t : Bool) → is_used s i ≡ t → place_bytes (place_in s i) ≡ part s (row_at i) row_size
      by true e = rw e (row-there s (row_at i) bytes (omega (arith, long)) (eqb-true _ _ e))
      by false e = rw e (sym (zero-part s (row_at i) row_size (omega (arith, long)) (rw e at (all-at row_count i _ clauses.free l))))

  abbrev b : Book
  b = book_of s

  place_at : (i : ℕ) → i < row_count → place b i ≡ place_in s i
  unfolding book_of
  place_at i l = get_or-table row_count (place_in s) i free l

  row-at : (i : ℕ) → is_row s i ≡ true → place b i ≡ row (key_at s (row_at i)) (first_number_at s (row_at i)) (ticks_in s (row_at i))
  unfolding place_in
  row-at i h = let p = row-parts s i h in place_at i p.0 ∙ rw p.1

  used-at : (i : ℕ) → i < row_count → is_used s i ≡ not (is_free (place b i))
  unfolding place_in
  used-at i l = rw (place_at i l) (by (is_used s i))
    where
      by : (t : Bool) → t ≡ not (is_free (cond t (row (key_at s (row_at i)) (first_number_at s (row_at i)) (ticks_in s (row_at i))) free))
      by true = refl
      by false = refl

  -- ---- the desks

  opened : (d : ℕ) → d < desk_count → is_closed s d ≡ false → Opened s d
  opened d l o = desk-parts s d (all-at desk_count d (desk_right s) clauses.desks l) o

  -- a copy at c that carries the flag, the key and the first number of row i
  copy-there : (i c : ℕ) → is_row s i ≡ true → c + row_size ≤ sheet_size → carries s c i ≡ true
      → place_bytes (with_ticks (ticks_in s c) (place b i)) ≡ part s c row_size
  copy-there i c l h e =
      let there = row-parts s i l in
      let same = same-part s (row_at i) s c ticks_at (omega (arith, long)) (omega (arith, long)) e in
      let flag : number_at s (row_at i) used_flag_size ≡ number_at s c used_flag_size =
      number_same s (row_at i) c ticks_at 0 used_flag_size (row_at i) c same (add-zero (row_at i)) (add-zero c) (omega arith) in
      let key : key_at s (row_at i) ≡ key_at s c =
      number_same s (row_at i) c ticks_at key_start key_size (row_at i + key_start) (c + key_start) same refl refl (omega arith) in
      let first : first_number_at s (row_at i) ≡ first_number_at s c =
      number_same s (row_at i) c ticks_at first_at first_size (row_at i + first_at) (c + first_at) same refl refl (omega arith) in
      rw (row-at i l, key, first) (row-there s c bytes (omega (arith, long)) (sym flag ∙ eqb-true _ _ there.1))

  desk-there : (d : ℕ) → d < desk_count → desk_bytes b.places (desk_in s d) ≡ part s (desk_at d) desk_size
  unfolding desk_bytes desk_in desk_right closed_zero open_desk
  desk-there d l = by (is_closed s d) refl
    where
      by : (t : Bool) → is_closed s d ≡ t → desk_bytes b.places (desk_in s d) ≡ part s (desk_at d) desk_size
      by true e =
          let right-desk = all-at desk_count d (desk_right s) clauses.desks l in
          let zero = (and_split (closed_zero s d) (desk_marked s d) (and_split (closed_zero s d && desk_marked s d) (open_names s d) right-desk).0).0 in
          rw e (sym (zero-part s (desk_at d) desk_size (omega (arith, long)) (rw e at zero)))
      by false e =
          let a = desk_at d in
          let o = opened d l e in
          let r = desk_row s d in
          let bound : a + desk_size ≤ sheet_size = omega arith in
          let two = copy-there r (a + worked_at) o.names (omega arith) o.worked-carries in
          let one = copy-there r (a + opened_at) o.names (omega arith) o.opened-carries in
          let zeros = sym (zero-part s (a + desk_zeros_at) desk_zeros_size (omega (arith, long)) o.zeros) in
          let row-byte = sym (part-one s (a + desk_row_at) (omega (arith, long))) in
          let byte : 1 ∷ [] ≡ part s a 1 = ap (λ (x : ℕ). x ∷ []) (sym o.is_one) ∙ sym (part-one s a (omega (arith, long))) in
          let copies = row_size + row_size in
          rw e
          (join s a desk_row_at (a + desk_row_at) (1 + (desk_zeros_size + copies)) desk_size byte
          (join s (a + desk_row_at) 1 (a + desk_zeros_at) (desk_zeros_size + copies) (1 + (desk_zeros_size + copies)) row-byte
          (join s (a + desk_zeros_at) desk_zeros_size (a + opened_at) copies (desk_zeros_size + copies) zeros
          (join s (a + opened_at) row_size (a + worked_at) row_size copies one two (omega arith) refl) (omega arith) refl) (omega arith) refl) refl refl)

  -- ---- the sheet

  count-there : count_used b.places ≡ used s
  unfolding book_of
  count-there =
      let n = length-table row_count (place_in s) in
      sym (count_law b.places (is_used s) (λ i l. used-at i (omega arith))) ∙ rw n clauses.counted

  pub read-law : layout b ≡ s
  unfolding layout book_of
  read-law =
      rw count-there
      (join s 0 desks_start desks_start (desk_size * desk_count) sheet_size
      (join s 0 rows_start rows_start (row_size * row_count) desks_start header-there
      (laid_table s row_size place_bytes row_count rows_start (place_in s) place-there) refl refl)
      (laid_table s desk_size (desk_bytes b.places) desk_count desks_start (desk_in s) desk-there) refl refl
      ∙ part-whole s sheet_size long)

  -- ---- the book is well-formed

  set_there : (a : ℕ) → IsSet (ticks_in s a)
  unfolding ticks_in
  set_there a = length-table row_length _

  -- what is asked of a row that there is
  asked : (P : ℕ → Bool) (i : ℕ) → all row_count (λ k. not (is_used s k) || P k) ≡ true → is_row s i ≡ true → P i ≡ true
  asked P i h r = let p = row-parts s i r in rw p.1 at (all-at row_count i (λ k. not (is_used s k) || P k) h p.0)

  keys-apart : (i j : ℕ) → is_row s i ≡ true → is_row s j ≡ true → j < i → key_at s (row_at j) ≡ key_at s (row_at i) → ⊥
  unfolding different_keys is_new
  keys-apart i j ri rj m e =
      let new = asked (λ k. is_new s k (key_at s (row_at k))) i clauses.different ri in
      let other = all-at i j (λ q. not (is_used s q) || not (eqb (key_at s (row_at q)) (key_at s (row_at i)))) new m in
      eqb-false _ _ (not-true _ (rw (row-parts s j rj).1 at other)) e

  abbrev key : ℕ → ℕ
  key i = key_at s (row_at i)

  abbrev first : ℕ → ℕ
  first i = first_number_at s (row_at i)

  is-row : (i : ℕ) → i < row_count → is_used s i ≡ true → is_row s i ≡ true
  is-row i l e = rw (lt-ltb i row_count l, e)

  rows-fine : RowsFine (is_used s) key first (λ i. ticks_in s (row_at i))
  unfolding valid_keys first_numbers
  rows-fine =
      record {
        valid = λ i l e. asked (λ k. valid_key (key k)) i clauses.valid (is-row i l e);
        numbers = λ i l e. ltb-true _ _ (asked (λ k. is_number (key k) (first k)) i clauses.firsts (is-row i l e));
        different = λ i j l e o m. keys-apart i j (is-row i l e) (is-row j (omega arith) o) m;
        sets = λ i. set_there (row_at i);
      }

  abbrev opened_set : ℕ → Positions
  opened_set d = ticks_in s (desk_at d + opened_at)

  abbrev worked_set : ℕ → Positions
  worked_set d = ticks_in s (desk_at d + worked_at)

  desks-fine : DesksFine (is_used s) key first (λ i. ticks_in s (row_at i)) (is_closed s) (desk_row s) opened_set worked_set
  desks-fine =
      record {
        names = λ d l o. row-parts s (desk_row s d) (opened d l o).names;
        opened-sets = λ d. set_there (desk_at d + opened_at);
        worked-sets = λ d. set_there (desk_at d + worked_at);
      }

  pub book-fine : WellFormed b
  unfolding book_of place_in desk_in
  book-fine =
      well-formed (is_used s) key first (λ i. ticks_in s (row_at i)) (is_closed s) (desk_row s) opened_set worked_set rows-fine desks-fine
