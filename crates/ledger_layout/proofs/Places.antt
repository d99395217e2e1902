-- Where the parts of a book stand in its layout: the header's numbers, the rows, the desks; reading and writing each. Assumes nothing.
use Prim.Native.Nat.{ℕ, ◌+◌, ◌*◌, ◌^◌, ◌<◌, ◌≤◌}
use native.Mathlib.Nat.{add-zero}
use native.Mathlib.Omega.{arith}
use mathlib.Core.Bool.{Bool, true, false, not}
use mathlib.Core.List.{List, [], ◌∷◌, ◌++◌, append-nil, append_assoc}
use mathlib.Core.Path.{◌≡◌, refl, sym, ap, ◌∙◌}
use lib.Dec.{ltb}
use lib.ListN.{length, get_or, set, replicate, length-append, length-replicate, get_or-eq_default}
use borrow.Author.Tests.{ltb-true, ltb-false}
use Rattle.ledger_model.specs.Positions.{Positions}
use Rattle.ledger_model.specs.Book.{Place, free, Desk, closed, working, Book, place, desk, put_desk, with_ticks, is_open}
use Rattle.ledger_model.specs.WellFormed.{WellFormed}
use Rattle.octets.specs.Octets.{number_at, bytes_of, part, put}
use Rattle.octets.proofs.Laws.{length-bytes_of, part_at}
use Rattle.octets.proofs.Parts.{number-first, number-bytes, part-first, part-whole, part-seam}
use Rattle.ledger_sheet.specs.Sheet.{sheet_size, row_size, row_count, rows_start, desk_zeros_at, desk_zeros_size, opened_at, worked_at, desk_size}
use Rattle.ledger_sheet.specs.Sheet.{desk_count, desks_start, header_number_size, used_at, row_at, desk_at, header_number, is_closed}
use Rattle.ledger_layout.specs.Bytes.{header_bytes, open_desk}
use Rattle.ledger_layout.specs.Layout.{place_bytes, desk_bytes, count_used, layout}
use Rattle.octets.specs.Lists.{laid}
use Rattle.octets.proofs.Puts.{put-seam}
use Rattle.ledger_layout.proofs.Parts.{number-within, part-within, put-within, put_first}
use Rattle.octets.proofs.Lists.{length-laid, part-laid, put-laid, laid_same}
use Rattle.ledger_layout.proofs.Rows.{length-place}

-- ---- the header

pub length-header : (n : ℕ) → length (header_bytes n) ≡ rows_start
unfolding header_bytes
length-header n = simp (length-append, length-bytes_of)

abbrev pub header_numbers : ℕ → List ℕ
header_numbers n = sheet_size ∷ n ∷ row_count ∷ rows_start ∷ desk_count ∷ desks_start ∷ []

header-laid : (n : ℕ) → header_bytes n ≡ [] ++ laid (bytes_of header_number_size) (header_numbers n) ++ []
unfolding header_bytes laid
header-laid n = simp (append_assoc, append-nil)

length-number : (v : ℕ) → length (bytes_of header_number_size v) ≡ header_number_size
length-number v = length-bytes_of header_number_size v

-- number k of the header
pub header-number : (n k v : ℕ) (rows desks : List ℕ) → k < length (header_numbers n) → get_or (header_numbers n) k 0 ≡ v → v < 256 ^ header_number_size
    → header_number (header_bytes n ++ rows ++ desks) (header_number_size * k) ≡ v
header-number n k v rows desks l e h =
    let a = header_number_size * k in
    let header = header_bytes n in
    let lh = length-header n in
    let chunk : part header a header_number_size ≡ bytes_of header_number_size v =
    ap (λ (t : List ℕ). part t a header_number_size) (header-laid n)
    ∙ part-laid header_number_size (bytes_of header_number_size) length-number [] [] (header_numbers n) 0 k a l (omega arith)
    ∙ ap (bytes_of header_number_size) e in
    number-first (header ++ rows) desks a header_number_size (rw length-append (omega arith))
    ∙ number-first header rows a header_number_size (omega arith)
    ∙ sym (number-within header a header_number_size 0 header_number_size a (add-zero a) (omega arith))
    ∙ ap (λ (t : List ℕ). number_at t 0 header_number_size) chunk
    ∙ number-bytes header_number_size v h

-- another count of rows
pub header-put : (n m : ℕ) (rows desks : List ℕ)
    → put (header_bytes n ++ rows ++ desks) used_at (bytes_of header_number_size m) ≡ header_bytes m ++ rows ++ desks
header-put n m rows desks =
    let v = bytes_of header_number_size m in
    let lv = length-number m in
    let lh = length-header n in
    let one : put (header_bytes n) used_at v ≡ header_bytes m =
    ap (λ (t : List ℕ). put t used_at v) (header-laid n)
    ∙ put-laid header_number_size (bytes_of header_number_size) length-number [] [] (header_numbers n) 1 used_at m (omega arith) refl
    ∙ sym (header-laid m) in
    put_first (header_bytes n ++ rows) desks used_at v (rw length-append (omega arith))
    ∙ ap (λ (t : List ℕ). t ++ desks) (put_first (header_bytes n) rows used_at v (omega arith) ∙ ap (λ (t : List ℕ). t ++ rows) one)

-- ---- one desk

pub length-desk : (ps : List Place) (x : Desk) → length (desk_bytes ps x) ≡ desk_size
unfolding desk_bytes open_desk
length-desk ps closed = length-replicate {A = ℕ} desk_size 0
length-desk ps (working r opened worked) = simp (length-append, length-place)

module _ (ps : List Place) (r : ℕ) (opened worked : Positions) where
  abbrev pub copy : Positions → List ℕ
  copy t = place_bytes (with_ticks t (get_or ps r free))

  abbrev bytes : List ℕ
  bytes = desk_bytes ps (working r opened worked)

  pub opened_in : part bytes opened_at row_size ≡ copy opened
  unfolding desk_bytes open_desk
  opened_in = part-seam (1 ∷ r ∷ 0 ∷ 0 ∷ []) (copy opened) (copy worked) opened_at row_size refl (length-place (with_ticks opened (get_or ps r free)))

  pub worked-in : part bytes worked_at row_size ≡ copy worked
  unfolding desk_bytes open_desk
  worked-in =
      let lo = length-place (with_ticks opened (get_or ps r free)) in
      ap (λ (t : List ℕ). part ((1 ∷ r ∷ 0 ∷ 0 ∷ copy opened) ++ t) worked_at row_size) (sym (append-nil (copy worked)))
      ∙ part-seam (1 ∷ r ∷ 0 ∷ 0 ∷ copy opened) (copy worked) [] worked_at row_size (omega arith) (length-place (with_ticks worked (get_or ps r free)))

  pub zeros-in : part bytes desk_zeros_at desk_zeros_size ≡ replicate desk_zeros_size 0
  unfolding desk_bytes open_desk
  zeros-in = part-seam (1 ∷ r ∷ []) (replicate desk_zeros_size 0) (copy opened ++ copy worked) desk_zeros_at desk_zeros_size refl refl

  -- another worked copy
  pub worked-put : (t : Positions) → put bytes worked_at (copy t) ≡ desk_bytes ps (working r opened t)
  unfolding desk_bytes open_desk
  worked-put t =
      let lo = length-place (with_ticks opened (get_or ps r free)) in
      let lw = length-place (with_ticks worked (get_or ps r free)) ∙ sym (length-place (with_ticks t (get_or ps r free))) in
      ap (λ (x : List ℕ). put ((1 ∷ r ∷ 0 ∷ 0 ∷ copy opened) ++ x) worked_at (copy t)) (sym (append-nil (copy worked)))
      ∙ put-seam (1 ∷ r ∷ 0 ∷ 0 ∷ copy opened) (copy worked) [] (copy t) worked_at (omega arith) lw
      ∙ rw append-nil

-- ---- the rows and the desks of a book

pub record Shape (b : Book) : Type 0 where
  pub rows-count : length b.places ≡ row_count
  pub desks-count : length b.desks ≡ desk_count

pub shape : {b : Book} → WellFormed b → Shape b
shape ok = record { rows-count = ok.places_count; desks-count = ok.desks-count }

module _ (b : Book) (ok : Shape b) where
  abbrev header : List ℕ
  header = header_bytes (count_used b.places)

  abbrev rows : List ℕ
  rows = laid place_bytes b.places

  abbrev desks : List ℕ
  desks = laid (desk_bytes b.places) b.desks

  length_front : length (header ++ rows) ≡ desks_start
  length_front =
      rw (length-append, length-laid row_size place_bytes length-place b.places) (omega (arith, length-header (count_used b.places), ok.rows-count))

  pub length-layout : length (layout b) ≡ sheet_size
  unfolding layout
  length-layout =
      rw (length-append, length-laid desk_size (desk_bytes b.places) (length-desk b.places) b.desks) (omega (arith, length_front, ok.desks-count))

  -- what stands before the desks
  pub front-part : part (layout b) 0 desks_start ≡ header ++ rows
  unfolding layout
  front-part =
      let l = length_front in
      part-first (header ++ rows) desks 0 desks_start (omega arith) ∙ part-whole (header ++ rows) desks_start l

  pub row-part : (r : ℕ) → r < row_count → part (layout b) (row_at r) row_size ≡ place_bytes (place b r)
  unfolding layout
  row-part r l =
      let lr = ok.rows-count in
      part-laid row_size place_bytes length-place header desks b.places free r (row_at r) (omega arith) (omega (arith, length-header (count_used b.places)))

  pub desk-part : (d : ℕ) → d < desk_count → part (layout b) (desk_at d) desk_size ≡ desk_bytes b.places (desk b d)
  unfolding layout
  desk-part d l =
      let ld = ok.desks-count in
      ap (λ (t : List ℕ). part t (desk_at d) desk_size) (sym (append-nil (header ++ rows ++ desks)))
      ∙ part-laid desk_size (desk_bytes b.places) (length-desk b.places) (header ++ rows) [] b.desks closed d (desk_at d) (omega arith)
      (omega (arith, length_front))

  pub desk-put : (d : ℕ) (x : Desk) → d < desk_count → put (layout b) (desk_at d) (desk_bytes b.places x) ≡ layout (put_desk d x b)
  unfolding layout
  desk-put d x l =
      let ld = ok.desks-count in
      let bytes = desk_bytes b.places x in
      ap (λ (t : List ℕ). put t (desk_at d) bytes) (sym (append-nil (header ++ rows ++ desks)))
      ∙ put-laid desk_size (desk_bytes b.places) (length-desk b.places) (header ++ rows) [] b.desks d (desk_at d) x (omega arith)
      (omega (arith, length_front))
      ∙ append-nil (header ++ rows ++ laid (desk_bytes b.places) (set b.desks d x))

  -- a row, where the desks lay out the same with it
  pub row_put : (r : ℕ) (p : Place) → r < row_count → ((d : ℕ) → desk_bytes b.places (desk b d) ≡ desk_bytes (set b.places r p) (desk b d))
      → let ps = set b.places r p in
      put (layout b) (row_at r) (place_bytes p) ≡ header ++ laid place_bytes ps ++ laid (desk_bytes ps) b.desks
  unfolding layout
  row_put r p l h =
      let lr = ok.rows-count in
      put-laid row_size place_bytes length-place header desks b.places r (row_at r) p (omega arith) (omega (arith, length-header (count_used b.places)))
      ∙ ap (λ (t : List ℕ). header ++ laid place_bytes (set b.places r p) ++ t) (laid_same _ _ b.desks closed h)

  -- ---- a desk's bytes, and its copies

  pub desk-byte : (d i k : ℕ) (x : Desk) → d < desk_count → desk b d ≡ x → i < desk_size → desk_at d + i ≡ k
      → get_or (layout b) k 0 ≡ get_or (desk_bytes b.places x) i 0
  desk-byte d i k x l q h e =
      rw (← e) (sym (part_at (layout b) (desk_at d) desk_size i h) ∙ ap (λ (t : List ℕ). get_or t i 0) (desk-part d l ∙ ap (desk_bytes b.places) q))

  -- what stands in a desk
  pub desk-in : (d j n : ℕ) (x : Desk) → d < desk_count → desk b d ≡ x → j + n ≤ desk_size
      → part (layout b) (desk_at d + j) n ≡ part (desk_bytes b.places x) j n
  desk-in d j n x l q h =
      sym (part-within (layout b) (desk_at d) desk_size j n (desk_at d + j) refl h)
      ∙ ap (λ (t : List ℕ). part t j n) (desk-part d l ∙ ap (desk_bytes b.places) q)

  -- and is put there
  pub desk-put-in : (d j : ℕ) (v : List ℕ) (x y : Desk) → d < desk_count → desk b d ≡ x → j + length v ≤ desk_size
      → put (desk_bytes b.places x) j v ≡ desk_bytes b.places y
      → put (layout b) (desk_at d + j) v ≡ layout (put_desk d y b)
  desk-put-in d j v x y l q h e =
      let long = length-layout in
      put-within (layout b) (desk_at d) desk_size j v h (omega arith)
      ∙ ap (λ (t : List ℕ). put (layout b) (desk_at d) (put t j v)) (desk-part d l ∙ ap (desk_bytes b.places) q)
      ∙ ap (put (layout b) (desk_at d)) e
      ∙ desk-put d y l

  -- whether a desk is closed, also one that is not there
  pub closed-law : (d : ℕ) → is_closed (layout b) d ≡ not (is_open (desk b d))
  unfolding desk_bytes open_desk
  closed-law d = by (ltb d desk_count) refl (desk b d) refl
    where
      by : (t : Bool) → ltb d desk_count ≡ t → (x : Desk) → desk b d ≡ x → is_closed (layout b) d ≡ not (is_open (desk b d))
      by true e closed q = rw (desk-byte d 0 (desk_at d) closed (ltb-true _ _ e) q (omega arith) (add-zero (desk_at d)), q)
      by true e (working r opened worked) q =
          rw (desk-byte d 0 (desk_at d) (working r opened worked) (ltb-true _ _ e) q (omega arith) (add-zero (desk_at d)), q)
      by false e x q =
          let past : desk_count ≤ d = ltb-false _ _ e in
          let ld = ok.desks-count in
          rw (
            get_or-eq_default (layout b) 0 {n = desk_at d} (rw length-layout (omega arith)),
            get_or-eq_default b.desks closed {n = d} (omega arith),
          )
