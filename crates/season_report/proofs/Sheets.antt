-- The sheets that are loaded: what a file's bytes make of a slot, and the slots one after another. Assumes nothing.
use Prim.Native.Nat.{ℕ, ◌+◌, ◌-◌, ◌*◌, ◌%◌, ◌≤◌, ◌<◌}
use native.Mathlib.Omega.{arith}
use mathlib.Core.Bool.{Bool, true, false, cond, ◌&&◌, false≢true}
use mathlib.Core.List.{List, [], ◌∷◌, ◌++◌}
use mathlib.Core.Path.{◌≡◌, refl, sym, ap, subst, ◌∙◌}
use borrow.Author.Tests.{eq-eqb, ne_eqb, eqb-true, eqb-false, le-ltb}
use borrow.Rule.Slice.PartMut.{mid_of, put_mid, same_len_mid, mid_len}
use lib.Dec.{eqb}
use lib.ListN.{length, get_or, take, drop, set, length-set, take-append-drop}
use lib.Seq.{length-take-le, get_or-set_same, get_or-set_other}
use Rattle.std.specs.Prelude.{Some, None}
use Rattle.octets.specs.Octets.{part}
use Rattle.octets.proofs.Laws.{all-each}
use Rattle.octets.proofs.Parts.{part-first, part-second, part-seam}
use Rattle.refusals.specs.Judge.{◌when◌, judge}
use Rattle.ledger_sheet.specs.Sheet.{sheet_size, right}
use Rattle.ledger_sheet.specs.Outcome.{Outcome}
use Rattle.ledger_layout.specs.Layout.{layout}
use Rattle.ledger_layout.proofs.Right.{layout-right}
use Rattle.ledger_convert.specs.Old as Old
use Rattle.ledger_convert.specs.Convert.{old_book_of, convert_on}
use Rattle.ledger_convert.proofs.Read.{book-fine}
use Rattle.ledger_season.specs.Report.{most_sheets, report, key_in_two}
use Rattle.ledger_season.specs.Season.{sheet_at, sheet_count, books, right_to, season}
use Rattle.season_report_text.specs.declared.Files.{Files}
use Rattle.season_report_text.specs.inner.Room.{Named}
use Rattle.season_report.specs.inner.Places.{Places}
use Rattle.season_report.specs.Loaded.{Found, no_sheet, as_converted, as_it_stands, placing, room_size, Loads, IsLoaded, LoadsAll}

-- ---- one file

module _ (file slot : List ℕ) where
  pub placed-old : (o : Outcome) → length file ≡ Old.sheet_size → o ≡ convert_on file slot → as_converted o ≡ placing file slot
  unfolding placing
  placed-old o l e = rw (eq-eqb (length file) Old.sheet_size l, e)

  module _ (other : length file ≡ Old.sheet_size → ⊥) where
    pub placed-none : (length file ≡ length slot → ⊥) → (no_sheet, slot) ≡ placing file slot
    unfolding placing
    placed-none n = rw (ne_eqb (length file) Old.sheet_size other, ne_eqb (length file) (length slot) n)

    pub placed-whole : length file ≡ length slot → (record { is_sheet = right file; converted = false }, file) ≡ placing file slot
    unfolding placing
    placed-whole l = rw (ne_eqb (length file) Old.sheet_size other, eq-eqb (length file) (length slot) l)

  pub found-sheet : {b converted : Bool} {new : List ℕ} → (record { is_sheet = b; converted = converted }, new) ≡ placing file slot → b ≡ true
      → Places file slot new (Some converted)
  found-sheet e h = rw h at e

  pub found-none : {b converted : Bool} {new : List ℕ} → (record { is_sheet = b; converted = converted }, new) ≡ placing file slot → b ≡ false
      → Places file slot new None
  found-none e h = (ap (λ (p : Found × List ℕ). p.0.is_sheet) (sym e) ∙ h, ap (λ (p : Found × List ℕ). p.1) e)

  Right : Found × List ℕ → Type 0
  Right p = p.0.is_sheet ≡ true → right p.1 ≡ true

  converted-right : Right (as_converted (convert_on file slot))
  unfolding Right convert_on
  converted-right = by (eqb (length slot) sheet_size) (Old.right file) refl
    where
      by : (a b : Bool) → Old.right file ≡ b → Right (as_converted (cond (a && b) (0 ∷ [], layout (old_book_of file)) (20 ∷ [], slot)))
      by true true r e = layout-right (old_book_of file) (book-fine file r)
      by true false r e = absurd (false≢true cc)
      by false b r e = absurd (false≢true cc)

  standing-right : Right (as_it_stands file slot)
  unfolding Right
  standing-right = by (eqb (length file) (length slot))
    where
      by : (b : Bool) → Right (cond b (record { is_sheet = right file; converted = false }, file) (no_sheet, slot))
      by true e = e
      by false e = absurd (false≢true cc)

  -- what is found to be a sheet is right
  pub placed-right : {found : Found} {new : List ℕ} → (found, new) ≡ placing file slot → found.is_sheet ≡ true → right new ≡ true
  unfolding Right placing
  placed-right {found} {new} e = subst Right (sym e) (by (eqb (length file) Old.sheet_size))
    where
      by : (b : Bool) → Right (cond b (as_converted (convert_on file slot)) (as_it_stands file slot))
      by true = converted-right
      by false = standing-right

-- ---- the slots

-- The sheets with a new one in slot i.
abbrev pub after : (sheets new : List ℕ) → ℕ → List ℕ
after sheets new i = put_mid (sheet_size * i) (sheet_size * i + sheet_size - sheet_size * i) sheets new

module _ (sheets new : List ℕ) (i : ℕ) (room : sheet_size * i + sheet_size ≤ length sheets) where
  front : length (take (sheet_size * i) sheets) ≡ sheet_size * i
  front = length-take-le (sheet_size * i) sheets (omega arith)

  slot-new : length new ≡ sheet_size → sheet_at (after sheets new i) i ≡ new
  slot-new l = part-seam (take (sheet_size * i) sheets) new _ (sheet_size * i) sheet_size front l

  slot_kept : (j : ℕ) → j < i → sheet_at (after sheets new i) j ≡ sheet_at sheets j
  slot_kept j l =
      let inside : sheet_size * j + sheet_size ≤ length (take (sheet_size * i) sheets) = rw front (omega arith) in
      let first : (t : List ℕ) → sheet_at (take (sheet_size * i) sheets ++ t) j ≡ sheet_at (take (sheet_size * i) sheets) j =
      λ t. part-first (take (sheet_size * i) sheets) t (sheet_size * j) sheet_size inside in
      first _ ∙ sym (first (drop (sheet_size * i) sheets)) ∙ ap (λ (s : List ℕ). sheet_at s j) (take-append-drop (sheet_size * i) sheets)

-- ---- the rooms

-- The rooms after another file was read into room i.
abbrev pub after_room : (rooms room : List ℕ) → ℕ → List ℕ
after_room rooms room i = put_mid (room_size * i) (room_size * i + room_size - room_size * i) rooms room

module _ (rooms room : List ℕ) (i : ℕ) (space : room_size * i + room_size ≤ length rooms) where
  before : length (take (room_size * i) rooms) ≡ room_size * i
  before = length-take-le (room_size * i) rooms (omega arith)

  room-new : (n : ℕ) → n ≤ length room → part (after_room rooms room i) (room_size * i) n ≡ take n room
  unfolding part
  room-new n l = part-second (take (room_size * i) rooms) _ (room_size * i) 0 n (omega (arith, before)) ∙ part-first room _ 0 n (omega arith)

  room-kept : (j n : ℕ) → j < i → n ≤ room_size → part (after_room rooms room i) (room_size * j) n ≡ part rooms (room_size * j) n
  room-kept j n l few =
      let inside : room_size * j + n ≤ length (take (room_size * i) rooms) = rw before (omega arith) in
      let first : (t : List ℕ) → part (take (room_size * i) rooms ++ t) (room_size * j) n ≡ part (take (room_size * i) rooms) (room_size * j) n =
      λ t. part-first (take (room_size * i) rooms) t (room_size * j) n inside in
      first _ ∙ sym (first (drop (room_size * i) rooms)) ∙ ap (λ (s : List ℕ). part s (room_size * j) n) (take-append-drop (room_size * i) rooms)

-- ---- the files

-- So many are loaded.
pub record SoFar (count : ℕ) (names rooms sheets got : List ℕ) (files : Files) (i : ℕ) : Type 0 where
  pub named : Named names files
  pub room : length sheets ≡ sheet_size * most_sheets
  pub space : length rooms ≡ room_size * most_sheets
  pub counted : files.count ≡ i
  pub most : i ≤ count
  pub slots : length files.converted ≡ most_sheets
  pub counts : length got ≡ most_sheets
  pub held : (j : ℕ) → j < i → get_or got j 0 ≤ room_size
  pub each : (j : ℕ) → j < i → IsLoaded rooms got sheets files j

module _ {count : ℕ} {names rooms sheets got : List ℕ} {files : Files} {i : ℕ} (so_far : SoFar count names rooms sheets got files i) where
  -- no file is left
  pub all-loaded : (count ≤ most_sheets → count ≤ i)
      → Named names files × LoadsAll count rooms sheets (record { files = files; got = got })
  all-loaded h = (
    so_far.named,
    record {
      each = λ j l. so_far.each j (omega (arith, so_far.counted));
      whole = λ few. omega (arith, so_far.counted, so_far.most, h few);
    },
  )

  module _ (below : i < most_sheets) (room new : List ℕ) where
    within : sheet_size * i + sheet_size ≤ length sheets
    within = omega (arith, so_far.room)

    inside : room_size * i + room_size ≤ length rooms
    inside = omega (arith, so_far.space)

    kept : (j : ℕ) → j < i → IsLoaded (after_room rooms room i) got (after sheets new i) files j
    kept j l =
        let e = so_far.each j l in
        let slot = slot_kept sheets new i within j l in
        record {
          slot = e.slot;
          placed = rw (slot, room-kept rooms room i inside j (get_or got j 0) l (so_far.held j l)) e.placed;
          is_right = rw slot e.is_right;
        }

    module _ (names' : List ℕ) (found : Found) (size n : ℕ) (slot : List ℕ) where
      abbrev more : Files
      more = record { count = i + 1; sizes = set files.sizes i size; converted = set files.converted i found.converted }

      pub one_more : length new ≡ sheet_size → length room ≡ room_size → i < count → Loads room n slot new found → found.is_sheet ≡ true
          → Named names' more → SoFar count names' (after_room rooms room i) (after sheets new i) (set got i n) more (i + 1)
      one_more l wide below-count loads is named =
          record {
            named = named;
            room = same_len_mid (sheet_size * i) (sheet_size * i + sheet_size - sheet_size * i) sheets new (l ∙ sym part-long) ∙ so_far.room;
            space = same_len_mid (room_size * i) (room_size * i + room_size - room_size * i) rooms room (wide ∙ sym room-long) ∙ so_far.space;
            counted = refl;
            most = omega arith;
            slots = length-set files.converted i found.converted ∙ so_far.slots;
            counts = length-set got i n ∙ so_far.counts;
            held = λ j h. few j (eqb j i) refl h;
            each = λ j h. by j (eqb j i) refl h;
          }
        where
          part-long : length (mid_of (sheet_size * i) (sheet_size * i + sheet_size - sheet_size * i) sheets) ≡ sheet_size
          part-long = mid_len (sheet_size * i) (sheet_size * i + sheet_size) sheets within ∙ omega arith

          room-long : length (mid_of (room_size * i) (room_size * i + room_size - room_size * i) rooms) ≡ room_size
          room-long = mid_len (room_size * i) (room_size * i + room_size) rooms inside ∙ omega arith

          placed : (n ≤ length room) × ((found, new) ≡ placing (take n room) slot)
          placed = loads is

          read : get_or (set got i n) i 0 ≡ n
          read = get_or-set_same got i n 0 (omega (arith, so_far.counts))

          few : (j : ℕ) (b : Bool) → eqb j i ≡ b → j < i + 1 → get_or (set got i n) j 0 ≤ room_size
          few j true e h = let same : j ≡ i = eqb-true j i e in rw (same, read) (omega (arith, wide, placed.0))
          few j false e h =
              let other = eqb-false j i e in
              let earlier : j < i = omega arith in
              rw (get_or-set_other got i j n 0 other) (so_far.held j earlier)

          this : IsLoaded (after_room rooms room i) (set got i n) (after sheets new i) more i
          this =
              let there = get_or-set_same files.converted i found.converted false (omega (arith, so_far.slots)) in
              record {
                slot = slot;
                placed = rw (slot-new sheets new i within l, there, read, room-new rooms room i inside n placed.0)
                    (ap (λ (b : Bool). (record { is_sheet = b; converted = found.converted }, new)) (sym is) ∙ placed.1);
                is_right = rw (slot-new sheets new i within l) (placed-right (take n room) slot placed.1 is);
              }

          by : (j : ℕ) (b : Bool) → eqb j i ≡ b → j < i + 1 → IsLoaded (after_room rooms room i) (set got i n) (after sheets new i) more j
          by j true e h = rw (eqb-true j i e) this
          by j false e h =
              let other = eqb-false j i e in
              let earlier : j < i = omega arith in
              let old = kept j earlier in
              record {
                slot = old.slot;
                placed = rw (get_or-set_other files.converted i j found.converted false other, get_or-set_other got i j n 0 other) old.placed;
                is_right = old.is_right;
              }

-- ---- the season of right sheets

module _ (s : List ℕ) (n : ℕ) (few : n ≤ most_sheets) (whole : length s ≡ sheet_size * n) where
  as_many : sheet_count s ≡ n
  as_many = omega arith

  no-rest : length s % sheet_size ≡ 0
  no-rest = omega arith

  -- only a key in two of them is refused
  pub only-twice : right_to s n ≡ true → (get_or (season s) 0 0 ≡ 0 → ⊥) → get_or (season s) 0 0 ≡ 41
  unfolding season judge
  only-twice right refused =
      let words : season s ≡ judge (λ number. number ∷ report []) ((41 when key_in_two (books s)) ∷ []) (0 ∷ report (books s)) =
      rw (eq-eqb _ _ no-rest, le-ltb most_sheets (sheet_count s) (omega (arith, as_many)), ap (right_to s) as_many ∙ right) in
      by (key_in_two (books s)) words
    where
      by : (b : Bool) → season s ≡ judge (λ number. number ∷ report []) ((41 when b) ∷ []) (0 ∷ report (books s)) → get_or (season s) 0 0 ≡ 41
      by true e = ap (λ (w : List ℕ). get_or w 0 0) e
      by false e = absurd (refused (ap (λ (w : List ℕ). get_or w 0 0) e))

-- the sheets that are told of
pub right-first : (s : List ℕ) (n : ℕ) → sheet_size * n ≤ length s → ((j : ℕ) → j < n → right (sheet_at s j) ≡ true)
    → right_to (take (sheet_size * n) s) n ≡ true
unfolding right_to
right-first s n fits each =
    all-each n _ (λ j l. rw (slot-first j l) (each j l))
  where
    slot-first : (j : ℕ) → j < n → sheet_at (take (sheet_size * n) s) j ≡ sheet_at s j
    slot-first j l =
        let inside : sheet_size * j + sheet_size ≤ length (take (sheet_size * n) s) = rw (length-take-le (sheet_size * n) s fits) (omega arith) in
        sym (part-first (take (sheet_size * n) s) (drop (sheet_size * n) s) (sheet_size * j) sheet_size inside)
        ∙ ap (λ (t : List ℕ). sheet_at t j) (take-append-drop (sheet_size * n) s)
