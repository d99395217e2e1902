-- A new row is blank: by the contract of `enrol`, the row that it answers reads back with the key, the first number and no ticks. Assumes nothing.
use Prim.Native.Nat.{ℕ, ◌+◌}
use native.Mathlib.Omega.{arith}
use mathlib.Core.Bool.{Bool, true, false, false≢true}
use mathlib.Core.List.{List, [], ◌∷◌}
use mathlib.Core.Path.{◌≡◌, refl, sym, ap, ◌∙◌}
use lib.ListN.{replicate, length-replicate}
use lib.Seq.{get_or-set_same}
use Rattle.ledger_model.specs.Positions.{no_ticks}
use Rattle.ledger_model.specs.Book.{free, row, Book, place, lowest_free}
use Rattle.ledger_model.specs.Step.{Enrol, Reply, answer_words}
use Rattle.ledger_model.specs.WellFormed.{WellFormed}
use Rattle.ledger_model.proofs.Basics.{row_in}
use Rattle.ledger_model.proofs.Outcome.{Outcome, refusal, enrolment, outcome}
use Rattle.ledger_model.proofs.WellFormed.{well-formed}
use Rattle.octets.specs.Octets.{part}
use Rattle.octets.proofs.Laws.{Bytes}
use Rattle.ledger_sheet.specs.Sheet.{ticks_at, ticks_size, row_size, row_at, right}
use Rattle.ledger_changes.specs.inner.Rows.{blank_ticks, row_value_at, blank_row}
use Rattle.ledger_sheet.specs.Words.{row_words}
use Rattle.std.specs.Prelude.{Ok}
use Rattle.ledger_layout.specs.Layout.{place_bytes, layout, book_of, call, on_sheet}
use Rattle.ledger_layout.proofs.RowBytes.{row-ticks}
use Rattle.ledger_layout.proofs.Parts.{part-within}
use Rattle.ledger_layout.proofs.Places.{shape, row-part}
use Rattle.ledger_layout.proofs.Right.{row_read}
use Rattle.ledger_layout.proofs.Read.{book-fine}
use Rattle.ledger_layout.proofs.Writers.{blank}

-- a row with no ticks, in any layout
blank-there : (b : Book) → WellFormed b → (r key first : ℕ) → place b r ≡ row key first no_ticks → row_value_at (layout b) (row_at r) ≡ blank_row key first
unfolding row_value_at blank_row blank_ticks
blank-there b ok r key first e =
    let says = row_read b ok r key first no_ticks e in
    let lr = ok.places_count in
    let l = row_in b.places r e in
    let bytes = row-part b (shape ok) r (omega arith) ∙ ap place_bytes e ∙ sym (blank key first) in
    let ticks : part (layout b) (row_at r + ticks_at) ticks_size ≡ replicate ticks_size 0 =
    sym (part-within (layout b) (row_at r) row_size ticks_at ticks_size (row_at r + ticks_at) refl (omega arith))
    ∙ ap (λ (x : List ℕ). part x ticks_at ticks_size) bytes ∙ row-ticks key first (replicate ticks_size 0) (length-replicate {A = ℕ} ticks_size 0) in
    rw (says.key-is, says.first-is, ticks)

pub enrol-reads-back : (s t : List ℕ) (key first r : ℕ) → Bytes s → (row_words (Ok r), t) ≡ on_sheet (call (Enrol key first)) s
    → row_value_at t (row_at r) ≡ blank_row key first
unfolding on_sheet
enrol-reads-back s t key first r bytes e = by (right s) refl
  where
    b : Book
    b = book_of s

    at : {g : Reply} → Outcome b (Enrol key first) g → WellFormed g.book → ◌≡◌ {A = List ℕ × List ℕ} (0 ∷ r ∷ [], t) (answer_words g.answer, layout g.book)
        → row_value_at t (row_at r) ≡ blank_row key first
    at (refusal number m) ok h = let words : 0 ∷ r ∷ [] ≡ number ∷ [] = ap (λ o. o.0) h in absurd (false≢true cc)
    at (enrolment a) ok h =
        let words : 0 ∷ r ∷ [] ≡ 0 ∷ lowest_free b.places ∷ [] = ap (λ o. o.0) h in
        let same : r ≡ lowest_free b.places = cc in
        rw (ap (λ o. o.1) h, same)
        (blank-there _ ok (lowest_free b.places) key first (get_or-set_same b.places (lowest_free b.places) (row key first no_ticks) free a.is-lowest.in_list))

    by : (u : Bool) → right s ≡ u → row_value_at t (row_at r) ≡ blank_row key first
    by false h = let words : 0 ∷ r ∷ [] ≡ 20 ∷ [] = ap (λ o. o.0) (rw h at e) in absurd (false≢true cc)
    by true h = at (outcome (Enrol key first) b) (well-formed b (book-fine s bytes h) (outcome (Enrol key first) b)) (rw h at e)
