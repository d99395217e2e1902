-- Writing a desk or a place into a right sheet gives the layout of the book with that desk or place. Assumes nothing.
use Prim.Native.Nat.{ℕ, ◌+◌, ◌-◌, ◌<◌}
use native.Mathlib.Omega.{arith}
use mathlib.Core.Bool.{true, false, false≢true}
use mathlib.Core.Logic.{◌≢◌}
use mathlib.Core.List.{List}
use mathlib.Core.Path.{◌≡◌, refl, sym, ap, ◌∙◌}
use lib.ListN.{get_or, set, replicate}
use lib.Seq.{get_or-set_other}
use native.Mathlib.Numerals.{add-one}
use Rattle.laws.proofs.Bools.{same_bool}
use Rattle.ledger_model.specs.Positions.{Positions, no_ticks, same}
use Rattle.ledger_model.specs.Book.{Place, free, row, Desk, closed, working, Book, place, desk, put_place, put_desk}
use Rattle.ledger_model.specs.Book.{is_free, ticks_of, with_ticks, is_open, place_of, opened_of, worked_of, open_place, all_used, lowest_free, any_has_open}
use Rattle.ledger_model.specs.WellFormed.{PlaceOk, WellFormed}
use Rattle.ledger_model.proofs.Basics.{same_true, same_refl, row_in, has-row, not-open}
use Rattle.ledger_model.proofs.Basics as Basics
use Rattle.ledger_model.proofs.WellFormed.{saved}
use Rattle.octets.specs.Octets.{bytes_of, part, put, same_at}
use Rattle.octets.proofs.Laws.{Bytes}
use Rattle.octets.proofs.Parts.{same-part, part_same}
use Rattle.ledger_sheet.specs.Sheet.{ticks_size, row_size, row_count, opened_at, worked_at, desk_size, desk_count, header_number_size, used_at, row_at}
use Rattle.ledger_sheet.specs.Sheet.{desk_at, used, right}
use Rattle.ledger_layout.specs.Rows.{row_bytes}
use Rattle.ledger_layout.specs.inner.Rules.{IsSheet}
use Rattle.ledger_layout.specs.Bytes.{open_desk}
use Rattle.ledger_layout.specs.Layout.{bits_value, tick_bytes, place_bytes, desk_bytes, count_used, layout, book_of}
use Rattle.ledger_layout.proofs.Rows.{length-place, row_same}
use Rattle.ledger_layout.proofs.Places.{shape, header-put, worked-put, length-layout, row-part, desk-put, row_put, desk-put-in}
use Rattle.ledger_layout.proofs.Used.{count_same, count-more, count_less}
use Rattle.ledger_layout.proofs.Right.{n, used-is, OpenDesk, open-read, layout-right}
use Rattle.ledger_layout.proofs.Read.{read-law, book-fine}

-- a set given twice is the last one; a row with its own set is itself
pub set_twice : (t u : Positions) (p : Place) → with_ticks t (with_ticks u p) ≡ with_ticks t p
set_twice t u free = refl
set_twice t u (row key first ticks) = refl

pub own-ticks : (p : Place) → with_ticks (ticks_of p) p ≡ p
own-ticks free = refl
own-ticks (row key first ticks) = refl

-- desks lay out the same where their copies' keys and first numbers are the same
desk-same : (ps qs : List Place) (x : Desk)
    → ((r : ℕ) (opened worked t : Positions) → x ≡ working r opened worked → with_ticks t (get_or ps r free) ≡ with_ticks t (get_or qs r free))
    → desk_bytes ps x ≡ desk_bytes qs x
unfolding desk_bytes
desk-same ps qs closed h = refl
desk-same ps qs (working r opened worked) h = rw (h r opened worked opened refl, h r opened worked worked refl)

-- a row with no ticks
pub blank : (key first : ℕ) → row_bytes key first (replicate ticks_size 0) ≡ place_bytes (row key first no_ticks)
unfolding place_bytes tick_bytes bits_value no_ticks
blank key first = refl

-- ---- the layout of a well-formed book

module _ (b : Book) (ok : WellFormed b) where
  -- a place filled, or freed, that no desk has open; the header counts m rows
  pub place-law : (r m : ℕ) (p : Place) → r < row_count → ((d q : ℕ) (opened worked : Positions) → desk b d ≡ working q opened worked → q ≢ r)
      → m ≡ count_used (set b.places r p) → put (put (layout b) (row_at r) (place_bytes p)) used_at (bytes_of header_number_size m) ≡ layout (put_place r p b)
  unfolding layout
  place-law r m p l apart e =
      let same-desks : (d : ℕ) → desk_bytes b.places (desk b d) ≡ desk_bytes (set b.places r p) (desk b d) = λ d.
      desk-same b.places (set b.places r p) (desk b d) (λ q opened worked t x.
      ap (with_ticks t) (sym (get_or-set_other b.places r q p free (apart d q opened worked x)))) in
      ap (λ (x : List ℕ). put x used_at (bytes_of header_number_size m)) (row_put b (shape ok) r p l same-desks) ∙ header-put (n b ok) m _ _ ∙ rw e

  strike-law : (r : ℕ) → is_free (place b r) ≡ false → any_has_open r b.desks ≡ false
      → put (put (layout b) (row_at r) (place_bytes free)) used_at (bytes_of header_number_size (used (layout b) - 1)) ≡ layout (put_place r free b)
  strike-law r f h =
      let lr = ok.places_count in
      let less = count_less b.places r f in
      place-law r (used (layout b) - 1) free (omega (arith, row_in b.places r (has-row (place b r) f).is))
      (λ d q opened worked x. not-open b.desks r d q opened worked h x)
      (rw (used-is b ok) (omega (arith, less)))

  -- a row with no ticks in the lowest free place
  enrol-law : (key first : ℕ) → all_used b.places ≡ false
      → let r = lowest_free b.places in
      put (put (layout b) (row_at r) (row_bytes key first (replicate ticks_size 0))) used_at (bytes_of header_number_size (used (layout b) + 1))
      ≡ layout (put_place r (row key first no_ticks) b)
  enrol-law key first u =
      let r = lowest_free b.places in
      let lr = ok.places_count in
      let low = Basics.lowest b.places u in
      let more = count-more b.places r key first no_ticks low.in_list (ap is_free low.is_free_lem) in
      ap (λ (x : List ℕ). put (put (layout b) (row_at r) x) used_at (bytes_of header_number_size (used (layout b) + 1))) (blank key first)
      ∙ place-law r (used (layout b) + 1) (row key first no_ticks) (omega (arith, low.in_list))
      (λ d q opened worked x. Basics.row-not-free b.places q r _ _ _ (open-read b ok d q opened worked x).place_is low.is_free_lem)
      (rw (used-is b ok, add-one, more))

  -- a desk's copies of a row
  open-law : (d r : ℕ) → d < desk_count → r < row_count
      → let row-bytes = part (layout b) (row_at r) row_size in
      put (layout b) (desk_at d) (open_desk r row-bytes row-bytes) ≡ layout (put_desk d (working r (ticks_of (place b r)) (ticks_of (place b r))) b)
  unfolding desk_bytes
  open-law d r l m =
      let t = ticks_of (place b r) in
      let bytes : part (layout b) (row_at r) row_size ≡ place_bytes (with_ticks t (place b r)) =
      row-part b (shape ok) r m ∙ ap place_bytes (sym (own-ticks (place b r))) in
      ap (λ (x : List ℕ). put (layout b) (desk_at d) (open_desk r x x)) bytes ∙ desk-put b (shape ok) d (working r t t) l

  -- ---- an open desk

  module _ (d r : ℕ) (opened worked : Positions) (q : desk b d ≡ working r opened worked) where
    abbrev o : OpenDesk b ok d r opened worked
    o = open-read b ok d r opened worked q

    abbrev bytes : Positions → List ℕ
    bytes t = place_bytes (row o.key o.first t)

    row-bytes : part (layout b) (row_at r) row_size ≡ bytes o.ticks
    row-bytes = row-part b (shape ok) r o.row-there ∙ ap place_bytes o.place_is

    -- the bytes of the row and of the opened copy are compared, and so are the sets
    same-law : same_at (layout b) (row_at r) (layout b) (desk_at d + opened_at) row_size ≡ same (ticks_of (place b r)) opened
    same-law =
        let s = layout b in
        let long = length-layout b (shape ok) in
        let l = o.row-there in
        let row_ok : PlaceOk (row o.key o.first o.ticks) = rw o.place_is at (ok.place_ok r) in
        rw o.place_is
        (same_bool (same_at s (row_at r) s (desk_at d + opened_at) row_size) (same o.ticks opened)
        (λ e.
        let same_bytes = same-part s (row_at r) s (desk_at d + opened_at) row_size (omega (arith, long, l)) (omega (arith, long, o.there)) e in
        let sets = row_same o.key o.first o.ticks opened row_ok (o.row_ok opened o.opened-set) (sym row-bytes ∙ same_bytes ∙ o.opened-part) in
        ap (same o.ticks) (sym sets) ∙ same_refl o.ticks)
        (λ e. part_same s (row_at r) s (desk_at d + opened_at) row_size (row-bytes ∙ ap bytes (same_true o.ticks opened e) ∙ sym o.opened-part)))

    -- another worked copy
    pub worked-law : (t : Positions) → put (layout b) (desk_at d + worked_at) (bytes t) ≡ layout (put_desk d (working r opened t) b)
    worked-law t =
        let lw = length-place (row o.key o.first t) in
        let same_copy : place_bytes (with_ticks t (place b r)) ≡ bytes t = ap (λ p. place_bytes (with_ticks t p)) o.place_is in
        desk-put-in b (shape ok) d worked_at (bytes t) (working r opened worked) (working r opened t) o.there q (omega arith)
        (ap (put (desk_bytes b.places (working r opened worked)) worked_at) (sym same_copy) ∙ worked-put b.places r opened worked t)

    -- the worked copy is stored
    stored-law : put (layout b) (row_at r) (part (layout b) (desk_at d + worked_at) row_size) ≡ layout (put_place r (with_ticks worked (place b r)) b)
    unfolding layout
    stored-law =
        let new = with_ticks worked (place b r) in
        let same_copy : bytes worked ≡ place_bytes new = ap (λ p. place_bytes (with_ticks worked p)) (sym o.place_is) in
        let same-desks : (e : ℕ) → desk_bytes b.places (desk b e) ≡ desk_bytes (set b.places r new) (desk b e) = λ e.
        desk-same b.places (set b.places r new) (desk b e) (λ j _ _ t _.
        sym (Basics.put_same free (with_ticks t) b.places r new (set_twice t worked (place b r)) j)) in
        rw (o.worked-part, same_copy)
        (row_put b (shape ok) r new o.row-there same-desks ∙ rw (count_same b.places r worked))

pub laid-sheet : (b : Book) → WellFormed b → IsSheet (layout b)
laid-sheet b ok = (layout-right b ok, length-layout b (shape ok))

-- ---- any right sheet

-- An open desk has its row and its two sets.
pub record Works (x : Desk) : Type 0 where
  pub is : x ≡ working (place_of x) (opened_of x) (worked_of x)

pub works : (x : Desk) → is_open x ≡ true → Works x
works closed e = absurd (false≢true e)
works (working r opened worked) e = record { is = refl }

module _ (s : List ℕ) (bytes : Bytes s) (r : right s ≡ true) where
  abbrev b : Book
  b = book_of s

  ok : WellFormed b
  ok = book-fine s bytes r

  pub clear-on : (d : ℕ) → d < desk_count → put s (desk_at d) (replicate desk_size 0) ≡ layout (put_desk d closed (book_of s))
  unfolding desk_bytes
  clear-on d l = rw (read-law s bytes r) at (desk-put b (shape ok) d closed l)

  pub open-on : (d q : ℕ) → d < desk_count → q < row_count
      → put s (desk_at d) (open_desk q (part s (row_at q) row_size) (part s (row_at q) row_size))
      ≡ layout (put_desk d (working q (ticks_of (place (book_of s) q)) (ticks_of (place (book_of s) q))) (book_of s))
  open-on d q l m = rw (read-law s bytes r) at (open-law b ok d q l m)

  pub strike-on : (q : ℕ) → is_free (place (book_of s) q) ≡ false → any_has_open q (book_of s).desks ≡ false
      → put (put s (row_at q) (replicate row_size 0)) used_at (bytes_of header_number_size (used s - 1)) ≡ layout (put_place q free (book_of s))
  unfolding place_bytes
  strike-on q f h = rw (read-law s bytes r) at (strike-law b ok q f h)

  pub enrol-on : (key first : ℕ) → all_used (book_of s).places ≡ false
      → let r = lowest_free (book_of s).places in
      put (put s (row_at r) (row_bytes key first (replicate ticks_size 0))) used_at (bytes_of header_number_size (used s + 1))
      ≡ layout (put_place r (row key first no_ticks) (book_of s))
  enrol-on key first u = rw (read-law s bytes r) at (enrol-law b ok key first u)

  module _ (d : ℕ) (o : is_open (desk (book_of s) d) ≡ true) where
    abbrev x : Desk
    x = desk b d

    pub current-on : same_at s (row_at (place_of x)) s (desk_at d + opened_at) row_size ≡ same (ticks_of (open_place b d)) (opened_of x)
    current-on = rw (read-law s bytes r) at (same-law b ok d (place_of x) (opened_of x) (worked_of x) (works x o).is)

    pub store-on : put s (row_at (place_of x)) (part s (desk_at d + worked_at) row_size)
        ≡ layout (put_place (place_of x) (with_ticks (worked_of x) (open_place b d)) b)
    store-on = rw (read-law s bytes r) at (stored-law b ok d (place_of x) (opened_of x) (worked_of x) (works x o).is)

    pub stored-fine : WellFormed (put_place (place_of x) (with_ticks (worked_of x) (open_place b d)) b)
    stored-fine = saved b ok (place_of x) (worked_of x) (rw (works x o).is at (ok.desk_ok d)).2
