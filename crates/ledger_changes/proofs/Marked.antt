-- A tick or an untick in the bytes of a worked copy is a tick or an untick in the desk's worked set. Assumes nothing.
use Prim.Native.Nat.{ℕ, ◌+◌, ◌/◌, ◌<◌}
use native.Mathlib.Omega.{arith}
use mathlib.Core.Bool.{Bool, true, false, cond}
use mathlib.Core.List.{List, [], ◌∷◌}
use mathlib.Core.Path.{◌≡◌, refl, sym, ap, ◌∙◌}
use lib.Dec.{eqb}
use lib.ListN.{set}
use borrow.Author.Tests.{ltb-true, eqb-true}
use Rattle.refusals.specs.Judge.{verdict, judge}
use Rattle.ledger_model.specs.Positions.{row_length, Positions, has, position, in_row}
use Rattle.ledger_model.specs.Book.{row, working, Book, place, desk, put_desk, is_desk, is_open, place_of, opened_of, worked_of, position_at}
use Rattle.ledger_model.specs.Step.{Mark, done, refused, answer_words, reply}
use Rattle.ledger_model.specs.WellFormed.{PlaceOk, WellFormed}
use Rattle.ledger_model.proofs.Steps.{mark_verdict, mark-step}
use Rattle.ledger_model.proofs.Laws.{Changes, changes}
use Rattle.octets.specs.Octets.{part, put}
use Rattle.octets.proofs.Laws.{Bytes}
use Rattle.octets.proofs.Parts.{part-whole}
use Rattle.ledger_sheet.specs.Sheet.{ticks_size, row_size, worked_at, byte_bits, desk_at, right}
use Rattle.ledger_sheet.specs.Outcome.{Outcome, refused_or}
use Rattle.ledger_changes.specs.inner.Rows.{set_tick, clear_tick}
use Rattle.ledger_changes.specs.inner.Bytes.{marked, mark_rules, mark_position, mark_row}
use Rattle.ledger_layout.specs.Ticks.{ticked_at}
use Rattle.ledger_layout.specs.Layout.{tick_bytes, place_bytes, layout, book_of, call, laid_out}
use Rattle.ledger_layout.proofs.Rows.{row-byte, row-store, length-place, row-says}
use Rattle.ledger_layout.proofs.Places.{shape, length-layout}
use Rattle.ledger_layout.proofs.Puts.{put_same}
use Rattle.ledger_layout.proofs.Right.{OpenDesk, open-read}
use Rattle.ledger_layout.proofs.Read.{read-law, book-fine}
use Rattle.ledger_layout.proofs.Writers.{works, worked-law}
use Rattle.ledger_layout.proofs.Ticks.{test_bit, tick-at, tick-set, tick-clear}

-- what stands in a test's first case may use the test
pub cond_same : {A : Type 0} (t : Bool) (y : A) {x x' : A} → (t ≡ true → x ≡ x') → cond t x y ≡ cond t x' y
cond_same true y h = h refl
cond_same false y h = refl

abbrev accepted : List ℕ
accepted = 0 ∷ []

-- ---- ticks and unticks of a row

module _ (key first : ℕ) (t : Positions) (ok : PlaceOk (row key first t)) where
  abbrev bytes : List ℕ
  bytes = place_bytes (row key first t)

  ticked : (i : ℕ) → i < row_length → ticked_at bytes 0 i ≡ has t i
  unfolding ticked_at place_bytes
  ticked i l =
      rw (row-byte key first (tick_bytes ticks_size t) (i / byte_bits), tick-at ticks_size t i l) (test_bit (has t i))

  set-law : (i : ℕ) → i < row_length → has t i ≡ false → set_tick bytes 0 i ≡ place_bytes (row key first (set t i true))
  unfolding set_tick place_bytes
  set-law i l e =
      let lt = ok.2 in
      let ts = tick_bytes ticks_size t in
      rw (row-byte key first ts (i / byte_bits), row-store key first ts (i / byte_bits), tick-set ticks_size t i l (omega arith) e)

  clear-law : (i : ℕ) → i < row_length → has t i ≡ true → clear_tick bytes 0 i ≡ place_bytes (row key first (set t i false))
  unfolding clear_tick place_bytes
  clear-law i l e =
      let lt = ok.2 in
      let ts = tick_bytes ticks_size t in
      rw (row-byte key first ts (i / byte_bits), row-store key first ts (i / byte_bits), tick-clear ticks_size t i l (omega arith) e)

  marked-law : (flag : Bool) (i : ℕ) → Changes flag i t → marked flag bytes i ≡ place_bytes (row key first (set t i flag))
  marked-law true i c = set-law i c.in-row c.was-not
  marked-law false i c = clear-law i c.in-row c.was-not

  -- the row is refused a mark for what the set is
  verdict-law : (flag : Bool) (i : ℕ) → verdict (mark_rules flag bytes i) ≡ mark_verdict flag i t
  unfolding judge mark_verdict
  verdict-law flag i = by (in_row i) refl
    where
      by : (x : Bool) → in_row i ≡ x → verdict (mark_rules flag bytes i) ≡ mark_verdict flag i t
      by true e = rw (e, ticked i (ltb-true _ _ e))
      by false e = rw e

  pub mark-law : (flag : Bool) (n : ℕ)
      → let i = position key first n in
      mark_row flag n bytes
      ≡ cond (eqb (mark_verdict flag i t) 0)
      (accepted, place_bytes (row key first (set t i flag)))
      (mark_verdict flag i t ∷ [], bytes)
  unfolding mark_row mark_position refused_or
  mark-law flag n =
      let says = row-says bytes 0 key first t ok (part-whole bytes row_size (length-place (row key first t))) in
      let i = position key first n in
      rw (says.key-is, says.first-is, verdict-law flag i)
      (cond_same (eqb (mark_verdict flag i t) 0) _ (λ e. ap (λ (x : List ℕ). (accepted, x)) (marked-law flag i (changes flag i t (eqb-true _ _ e)))))

-- ---- of a desk

module _ (b : Book) (ok : WellFormed b) (d r : ℕ) (opened worked : Positions) (q : desk b d ≡ working r opened worked) where
  abbrev o : OpenDesk b ok d r opened worked
  o = open-read b ok d r opened worked q

  abbrev copy : Positions → List ℕ
  copy t = place_bytes (row o.key o.first t)

  mark-open : (flag : Bool) (number : ℕ) → is_desk d ≡ true
      → let s = layout b in
      let outcome = mark_row flag number (part s (desk_at d + worked_at) row_size) in
      (outcome.0, put s (desk_at d + worked_at) outcome.1) ≡ laid_out (call (Mark flag d number) b)
  mark-open flag number t =
      let i = position o.key o.first number in
      let at : position_at (place b r) number ≡ i = ap (λ p. position_at p number) o.place_is in
      let law = mark-law o.key o.first worked (o.row_ok worked o.worked-set) flag number in
      let v = mark_verdict flag i worked in
      rw (mark-step b d t flag number r opened worked q i at, o.worked-part, law) (by v (set worked i flag) (eqb v 0))
    where
      by : (v : ℕ) (new : Positions) (t : Bool)
          → let x = cond {A = Outcome} t (0 ∷ [], copy new) (v ∷ [], copy worked) in
          let g = cond t (reply done (put_desk d (working r opened new) b)) (reply (refused v) b) in
          (x.0, put (layout b) (desk_at d + worked_at) x.1) ≡ laid_out (answer_words g.answer, g.book)
      by v new true = ap (λ (x : List ℕ). (0 ∷ [], x)) (worked-law b ok d r opened worked q new)
      by v new false =
          let l = o.there in
          let long = length-layout b (shape ok) in
          ap (λ (x : List ℕ). (v ∷ [], x))
          (ap (put (layout b) (desk_at d + worked_at)) (sym o.worked-part) ∙ put_same (layout b) (desk_at d + worked_at) row_size (omega arith))

pub mark_on : (s : List ℕ) → Bytes s → right s ≡ true → (d : ℕ) → is_desk d ≡ true → is_open (desk (book_of s) d) ≡ true → (flag : Bool) (number : ℕ)
    → let outcome = mark_row flag number (part s (desk_at d + worked_at) row_size) in
    (outcome.0, put s (desk_at d + worked_at) outcome.1) ≡ laid_out (call (Mark flag d number) (book_of s))
mark_on s bytes r d t o flag number =
    let x = desk (book_of s) d in
    rw (read-law s bytes r) at (mark-open (book_of s) (book-fine s bytes r) d (place_of x) (opened_of x) (worked_of x) (works x o).is flag number t)
