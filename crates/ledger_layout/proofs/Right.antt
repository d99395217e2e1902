-- The layout of a well-formed book is a right sheet, and reads back as that book. Assumes nothing.
use Prim.Native.Nat.{ℕ, zero, suc, ◌+◌, ◌*◌, ◌^◌, ◌<◌, ◌≤◌}
use native.Mathlib.Nat.{add-zero}
use native.Mathlib.Omega.{arith}
use mathlib.Core.Bool.{Bool, true, false, not, ◌||◌, false≢true}
use mathlib.Core.Option.{some}
use mathlib.Core.List.{List, [], ◌∷◌}
use mathlib.Core.Path.{◌≡◌, refl, sym, ap, ◌∙◌}
use lib.Dec.{ltb, lit<}
use lib.ListN.{length, get_or, replicate, get_or-replicate, get_or-eq_default}
use borrow.Author.Tests.{ltb-true, ltb-false, lt-ltb, eq-eqb, ne_eqb}
use Rattle.keys.specs.Numbers.{modulus}
use Rattle.ledger_model.specs.Positions.{Positions}
use Rattle.ledger_model.specs.Book.{Place, free, row, Desk, closed, working, Book, place, desk, is_free, with_ticks}
use Rattle.ledger_model.specs.WellFormed.{IsSet, PlaceOk, key_of, WellFormed}
use Rattle.ledger_model.proofs.Basics.{row_in, has-row}
use Rattle.octets.specs.Octets.{number_at, part, zero_at}
use Rattle.octets.proofs.Laws.{part_at, all-each}
use Rattle.octets.proofs.Parts.{part_same}
use Rattle.ledger_sheet.specs.Sheet.{sheet_size, used_flag_size, ticks_at, row_size, row_count, desk_row_at, desk_zeros_at, desk_zeros_size, opened_at}
use Rattle.ledger_sheet.specs.Sheet.{worked_at, desk_size}
use Rattle.ledger_sheet.specs.Sheet.{desk_count, rows_start, desks_start, header_number_size, row_at, desk_at, header_number, used, is_used, is_row, desk_byte}
use Rattle.ledger_sheet.specs.Sheet.{desk_row, carries, header_right, count_right, valid_keys, is_new, different_keys, first_numbers, free_zero, desk_right}
use Rattle.ledger_sheet.specs.Sheet.{right}
use Rattle.ledger_layout.specs.Bytes.{open_desk}
use Rattle.ledger_sheet.proofs.Clauses.{closed-desk, open-desk}
use Rattle.ledger_layout.specs.Layout.{place_bytes, desk_bytes, count_used, layout, place_in, desk_in, book_of}
use Rattle.ledger_layout.proofs.Parts.{number-within, part-within}
use Rattle.octets.proofs.Lists.{table_is}
use Rattle.ledger_layout.proofs.Rows.{Says, row-says, row_carries}
use Rattle.ledger_layout.proofs.Places.{header_numbers, header-number, opened_in, worked-in, zeros-in, shape}
use Rattle.ledger_layout.proofs.Places.{length-layout, row-part, desk-part, desk-byte, desk-in, closed-law}
use Rattle.ledger_layout.proofs.Used.{Words, count_law, count-in}

part-zero : (s : List ℕ) (a n : ℕ) → part s a n ≡ replicate n 0 → zero_at s a n ≡ true
unfolding zero_at
part-zero s a n e =
    all-each n _ (λ i l. eq-eqb _ _ (sym (part_at s a n i l) ∙ ap (λ (t : List ℕ). get_or t i 0) e ∙ get_or-replicate n i 0 0 l))

-- an open desk is one of the list
desk-there : (ds : List Desk) (d : ℕ) {r : ℕ} {opened worked : Positions} → get_or ds d closed ≡ working r opened worked → d < length ds
desk-there [] d e = absurd (false≢true cc)
desk-there (x ∷ ds) zero e = omega arith
desk-there (x ∷ ds) (suc d) e = let h = desk-there ds d e in omega arith

-- the flag of a free row
free-flag : number_at (place_bytes free) 0 used_flag_size ≡ 0
unfolding number_at place_bytes
free-flag = refl

module _ (b : Book) (ok : WellFormed b) where
  abbrev s : List ℕ
  s = layout b

  abbrev pub n : ℕ
  n = count_used b.places

  pub few : n ≤ row_count
  few = omega (arith, count-in b.places, ok.places_count)

  -- ---- what is read of the layout

  number : (k v : ℕ) → k < length (header_numbers n) → get_or (header_numbers n) k 0 ≡ v
      → v < 256 ^ header_number_size → header_number s (header_number_size * k) ≡ v
  unfolding layout
  number k v l e h = header-number n k v _ _ l e h

  pub used-is : used s ≡ n
  used-is = number 1 n (lit< tt) refl (omega (arith, few))

  -- row r
  pub row_read : (r key first : ℕ) (ticks : Positions) → place b r ≡ row key first ticks → Says s (row_at r) key first ticks
  row_read r key first ticks e =
      let l = row_in b.places r e in
      let lr = ok.places_count in
      row-says s (row_at r) key first ticks (rw e at (ok.place_ok r)) (row-part b (shape ok) r (omega arith) ∙ ap place_bytes e)

  -- its flag
  pub row-used : (r : ℕ) → r < row_count → is_used s r ≡ not (is_free (place b r))
  row-used r l = by (place b r) refl
    where
      by : (p : Place) → place b r ≡ p → is_used s r ≡ not (is_free (place b r))
      by free e =
          let flag = sym (number-within s (row_at r) row_size 0 used_flag_size (row_at r) (add-zero (row_at r)) (omega arith))
          ∙ ap (λ (x : List ℕ). number_at x 0 used_flag_size) (row-part b (shape ok) r l ∙ ap place_bytes e) ∙ free-flag in
          rw (e, flag)
      by (row key first ticks) e = rw (e, (row_read r key first ticks e).flag_is)

  pub words : Words (is_used s) b.places
  words r l = row-used r (omega (arith, ok.places_count))

  -- whether there is a row r, of any number
  pub row_is : (r : ℕ) → is_row s r ≡ not (is_free (place b r))
  row_is r = by (ltb r row_count) refl
    where
      by : (t : Bool) → ltb r row_count ≡ t → is_row s r ≡ not (is_free (place b r))
      by true e = rw (e, row-used r (ltb-true r row_count e))
      by false e =
          let past : length b.places ≤ r = omega (arith, ok.places_count, ltb-false r row_count e) in
          rw (e, get_or-eq_default b.places free {n = r} past)

  -- an open desk: its place, and its copies
  pub record OpenDesk (d r : ℕ) (opened worked : Positions) : Type 0 where
    pub there : d < desk_count
    pub key : ℕ
    pub first : ℕ
    pub ticks : Positions
    pub place_is : place b r ≡ row key first ticks
    pub row_ok : (t : Positions) → IsSet t → PlaceOk (row key first t)
    pub row-there : r < row_count
    pub opened-set : IsSet opened
    pub worked-set : IsSet worked
    pub row_named : desk_row s d ≡ r
    pub opened-part : part s (desk_at d + opened_at) row_size ≡ place_bytes (row key first opened)
    pub worked-part : part s (desk_at d + worked_at) row_size ≡ place_bytes (row key first worked)

  pub open-read : (d r : ℕ) (opened worked : Positions) → desk b d ≡ working r opened worked → OpenDesk d r opened worked
  unfolding desk_bytes open_desk
  open-read d r opened worked q =
      let k = rw q at (ok.desk_ok d) in
      let h = has-row (place b r) k.0 in
      let p = rw h.is at (ok.place_ok r) in
      let ld = ok.desks-count in
      let l : d < desk_count = omega (arith, desk-there b.desks d q) in
      record {
        there = l;
        key = h.key;
        first = h.first;
        ticks = h.ticks;
        place_is = h.is;
        row_ok = λ t e. (p.0, p.1, e);
        row-there = omega (arith, row_in b.places r h.is, ok.places_count);
        opened-set = k.1;
        worked-set = k.2;
        row_named = desk-byte b (shape ok) d desk_row_at (desk_at d + desk_row_at) (working r opened worked) l q (omega arith) refl;
        opened-part =
            desk-in b (shape ok) d opened_at row_size (working r opened worked) l q (omega arith) ∙ opened_in b.places r opened worked
            ∙ ap (λ (p : Place). place_bytes (with_ticks opened p)) h.is;
        worked-part =
            desk-in b (shape ok) d worked_at row_size (working r opened worked) l q (omega arith) ∙ worked-in b.places r opened worked
            ∙ ap (λ (p : Place). place_bytes (with_ticks worked p)) h.is;
      }

  -- ---- reads back

  place-back : (r : ℕ) → r < row_count → place_in s r ≡ place b r
  unfolding place_in
  place-back r l = by (place b r) refl
    where
      by : (p : Place) → place b r ≡ p → place_in s r ≡ place b r
      by free e = rw (row-used r l, e)
      by (row key first ticks) e =
          let says = row_read r key first ticks e in
          rw (row-used r l, e, says.key-is, says.first-is, says.ticks-are)

  desk-back : (d : ℕ) → desk_in s d ≡ desk b d
  unfolding desk_in
  desk-back d = by (desk b d) refl
    where
      by : (x : Desk) → desk b d ≡ x → desk_in s d ≡ desk b d
      by closed q = rw (closed-law b (shape ok) d, q)
      by (working r opened worked) q =
          let o = open-read d r opened worked q in
          let so = row-says s (desk_at d + opened_at) o.key o.first opened (o.row_ok opened o.opened-set) o.opened-part in
          let sw = row-says s (desk_at d + worked_at) o.key o.first worked (o.row_ok worked o.worked-set) o.worked-part in
          rw (closed-law b (shape ok) d, q, o.row_named, so.ticks-are, sw.ticks-are)

  pub reads-back : book_of s ≡ b
  unfolding book_of
  reads-back =
      rw (
        table_is row_count (place_in s) b.places free ok.places_count place-back,
        table_is desk_count (desk_in s) b.desks closed ok.desks-count (λ d l. desk-back d),
      )

  -- ---- right

  header-right : header_right s ≡ true
  unfolding header_right
  header-right =
      rw (
        number 0 sheet_size (lit< tt) refl (lit< tt),
        number 2 row_count (lit< tt) refl (lit< tt),
        number 3 rows_start (lit< tt) refl (lit< tt),
        number 4 desk_count (lit< tt) refl (lit< tt),
        number 5 desks_start (lit< tt) refl (lit< tt),
      )

  count-right : count_right s ≡ true
  unfolding count_right
  count-right = eq-eqb _ _ (rw ok.places_count at (count_law b.places (is_used s) words) ∙ sym used-is)

  -- of a row that is free nothing is asked
  by_row : (r : ℕ) → r < row_count → (t : Bool)
      → ((key first : ℕ) (ticks : Positions) → place b r ≡ row key first ticks → Says s (row_at r) key first ticks → PlaceOk (row key first ticks) → t ≡ true)
      → (not (is_used s r) || t) ≡ true
  by_row r l t h = rw (row-used r l) (by (place b r) refl)
    where
      by : (p : Place) → place b r ≡ p → (not (not (is_free (place b r))) || t) ≡ true
      by free e = rw e
      by (row key first ticks) e = rw e (h key first ticks e (row_read r key first ticks e) (rw e at (ok.place_ok r)))

  keys-valid : valid_keys s ≡ true
  unfolding valid_keys
  keys-valid = all-each row_count _ (λ r l. by_row r l _ (λ key first ticks e says p. rw says.key-is p.0))

  firsts-fine : first_numbers s ≡ true
  unfolding first_numbers
  firsts-fine =
      all-each row_count _ (λ r l. by_row r l _ (λ key first ticks e says p. rw (says.key-is, says.first-is) (lt-ltb first (modulus key) p.1)))

  keys-different : different_keys s ≡ true
  unfolding different_keys is_new
  keys-different =
      all-each row_count _ (λ r l. by_row r l _ (λ key first ticks e says p.
      all-each r _ (λ q m. by_row q (omega arith) _ (λ key' first' ticks' e' says' p'.
      ap not (ne_eqb _ _ (λ z.
      let k : key' ≡ key = sym says'.key-is ∙ z ∙ says.key-is in
      let same : q ≡ r = ok.keys_differ q r key (ap key_of e' ∙ ap some k) (ap key_of e) in
      omega arith))))))

  free-zero : free_zero s ≡ true
  unfolding free_zero place_bytes
  free-zero = all-each row_count _ (λ r l. by r l (place b r) refl)
    where
      by : (r : ℕ) → r < row_count → (p : Place) → place b r ≡ p → (is_used s r || zero_at s (row_at r) row_size) ≡ true
      by r l free e =
          rw (row-used r l, e) (part-zero s (row_at r) row_size (row-part b (shape ok) r l ∙ ap place_bytes e))
      by r l (row key first ticks) e = rw (row-used r l, e)

  -- a copy whose bytes are those of a row with another set carries its flag, key and first number
  carried : (r c key first : ℕ) (t u : Positions) → part s (row_at r) row_size ≡ place_bytes (row key first t)
      → part s c row_size ≡ place_bytes (row key first u) → carries s c r ≡ true
  carried r c key first t u er ec =
      let head : (a : ℕ) → part s a ticks_at ≡ part (part s a row_size) 0 ticks_at = λ a. sym
      (part-within s a row_size 0 ticks_at a (add-zero a) (omega arith)) in
      part_same s (row_at r) s c ticks_at
      (head (row_at r) ∙ ap (λ (x : List ℕ). part x 0 ticks_at) er ∙ row_carries key first t u ∙ sym (ap (λ (x : List ℕ). part x 0 ticks_at) ec) ∙ sym (head c))

  desk-right : (d : ℕ) → d < desk_count → desk_right s d ≡ true
  unfolding desk_bytes open_desk
  desk-right d l = by (desk b d) refl
    where
      by : (x : Desk) → desk b d ≡ x → desk_right s d ≡ true
      by closed q =
          sym (closed-desk s d (desk-byte b (shape ok) d 0 (desk_at d) closed l q (omega arith) (add-zero (desk_at d))))
          ∙ part-zero s (desk_at d) desk_size (desk-part b (shape ok) d l ∙ ap (desk_bytes b.places) q)
      by (working r opened worked) q =
          let o = open-read d r opened worked q in
          let h = o.row-there in
          let there : is_row s r ≡ true = row_is r ∙ ap (λ p. not (is_free p)) o.place_is in
          let x = working r opened worked in
          let byte : desk_byte s d ≡ 1 = desk-byte b (shape ok) d 0 (desk_at d) x l q (omega arith) (add-zero (desk_at d)) in
          let zeros =
          part-zero s (desk_at d + desk_zeros_at) desk_zeros_size
          (desk-in b (shape ok) d desk_zeros_at desk_zeros_size x l q (omega arith) ∙ zeros-in b.places r opened worked) in
          let er = row-part b (shape ok) r (omega arith) ∙ ap place_bytes o.place_is in
          sym (open-desk s d (λ z. omega arith))
          ∙ rw (
            eq-eqb _ _ byte,
            zeros,
            o.row_named,
            there,
            carried r (desk_at d + opened_at) o.key o.first o.ticks opened er o.opened-part,
            carried r (desk_at d + worked_at) o.key o.first o.ticks worked er o.worked-part,
          )

  pub layout-right : right s ≡ true
  unfolding right
  layout-right =
      rw (
        eq-eqb _ _ (length-layout b (shape ok)),
        header-right,
        count-right,
        keys-valid,
        keys-different,
        firsts-fine,
        free-zero,
        all-each desk_count (desk_right s) desk-right,
      )
