-- Request 09 for every two lists of the ledger's calls on fresh sheets: from the model's books to the bytes. Assumes nothing.
use Prim.Native.Nat.{ℕ, zero, suc, ◌<◌, ◌≤◌}
use native.Mathlib.Nat.{add-zero}
use native.Mathlib.Omega.{arith}
use mathlib.Core.Bool.{Bool, true, false}
use mathlib.Core.List.{List, [], ◌∷◌, ◌++◌, map}
use mathlib.Core.Logic.{◌≢◌}
use mathlib.Core.Path.{◌≡◌, refl, sym, ap, ap₂, ◌∙◌}
use lib.Dec.{ltb}
use lib.ListN.{length, drop, get_or}
use lib.Seq.{drop-nil, take-nil}
use borrow.Author.Tests.{ltb-true, ltb-false}
use Rattle.octets.specs.Octets.{part}
use Rattle.ledger_model.specs.Positions.{Positions}
use Rattle.ledger_model.specs.Book.{Place, free, Desk, closed, working, Book, desk, with_ticks, with_worked}
use Rattle.ledger_model.specs.Step.{call_of, book_after}
use Rattle.ledger_model.specs.WellFormed.{WellFormed}
use Rattle.ledger_model.specs.Private.{Alike}
use Rattle.ledger_model.proofs.WellFormed.{run-well-formed}
use Rattle.ledger_model.proofs.Private.{model-private}
use Rattle.ledger_sheet.specs.Sheet.{worked_at, desk_size, desk_count, desk_at}
use Rattle.ledger_layout.specs.Bytes.{header_bytes, open_desk}
use Rattle.ledger_layout.specs.Layout.{place_bytes, desk_bytes, count_used, layout}
use Rattle.octets.specs.Lists.{laid}
use Rattle.ledger_layout.specs.Demand3.{header_and_rows}
use Rattle.octets.proofs.Parts.{part-seam}
use Rattle.ledger_layout.proofs.Rows.{length-place}
use Rattle.ledger_layout.proofs.Places.{length-layout, front-part, desk-part, desk-in, shape}
use Rattle.ledger.specs.Private.{desk_part, opened_part, Privacy}
use Rattle.ledger.proofs.Demand3.{demand-3}

-- ---- a desk's bytes before its worked copy

seen-in : (ps : List Place) (x : Desk) (s : Positions) → part (desk_bytes ps x) 0 worked_at ≡ part (desk_bytes ps (with_worked s x)) 0 worked_at
unfolding desk_bytes open_desk
seen-in ps closed s = refl
seen-in ps (working r opened worked) s = before worked ∙ sym (before s)
  where
    copy : Positions → List ℕ
    copy t = place_bytes (with_ticks t (get_or ps r free))

    before : (t : Positions) → part ((1 ∷ r ∷ 0 ∷ 0 ∷ copy opened) ++ copy t) 0 worked_at ≡ 1 ∷ r ∷ 0 ∷ 0 ∷ copy opened
    before t = let lo = length-place (with_ticks opened (get_or ps r free)) in
        part-seam [] (1 ∷ r ∷ 0 ∷ 0 ∷ copy opened) (copy t) 0 worked_at refl (omega arith)

-- ---- past the end of a list there is nothing

drop_past : (s : List ℕ) (a : ℕ) → length s ≤ a → drop a s ≡ []
drop_past [] a l = drop-nil a
drop_past (x ∷ s) zero l = absurd (omega arith)
drop_past (x ∷ s) (suc a) l = drop_past s a (omega arith)

part-past : (s : List ℕ) (a n : ℕ) → length s ≤ a → part s a n ≡ []
unfolding part
part-past s a n l = rw (drop_past s a l, take-nil)

-- ---- books that are alike, laid out

module _ (d : ℕ) (b c : Book) (fine-b : WellFormed b) (fine-c : WellFormed c) (k : Alike d b c) where
  rows_alike : header_and_rows (layout b) ≡ header_and_rows (layout c)
  rows_alike =
      front-part b (shape fine-b)
      ∙ ap (λ ps. header_bytes (count_used ps) ++ laid place_bytes ps) k.places_same
      ∙ sym (front-part c (shape fine-c))

  -- A desk that is not there has no bytes.
  past_end : (x : Book) → WellFormed x → (e n : ℕ) → desk_count ≤ e → part (layout x) (desk_at e) n ≡ []
  past_end x fine e n l = let long = length-layout x (shape fine) in part-past (layout x) (desk_at e) n (omega arith)

  desks-alike : (e : ℕ) → e ≢ d → desk_part (layout b) e ≡ desk_part (layout c) e
  desks-alike e other = by (ltb e desk_count) refl
    where
      by : (t : Bool) → ltb e desk_count ≡ t → desk_part (layout b) e ≡ desk_part (layout c) e
      by true q =
          let l = ltb-true e desk_count q in
          desk-part b (shape fine-b) e l
          ∙ ap₂ desk_bytes k.places_same (k.desks_same e other)
          ∙ sym (desk-part c (shape fine-c) e l)
      by false q = let l = ltb-false e desk_count q in past_end b fine-b e desk_size l ∙ sym (past_end c fine-c e desk_size l)

  opened-alike : opened_part (layout b) d ≡ opened_part (layout c) d
  opened-alike = by (ltb d desk_count) refl
    where
      own : (x : Book) → WellFormed x → d < desk_count → opened_part (layout x) d ≡ part (desk_bytes x.places (with_worked [] (desk x d))) 0 worked_at
      own x fine l =
          ap (λ a. part (layout x) a worked_at) (sym (add-zero (desk_at d)))
          ∙ desk-in x (shape fine) d 0 worked_at (desk x d) l refl (omega arith)
          ∙ seen-in x.places (desk x d) []

      by : (t : Bool) → ltb d desk_count ≡ t → opened_part (layout b) d ≡ opened_part (layout c) d
      by true q =
          let l = ltb-true d desk_count q in
          own b fine-b l
          ∙ ap₂ (λ ps x. part (desk_bytes ps x) 0 worked_at) k.places_same (k.own_same [])
          ∙ sym (own c fine-c l)
      by false q = let l = ltb-false d desk_count q in past_end b fine-b d worked_at l ∙ sym (past_end c fine-c d worked_at l)

-- ---- the theorem

pub privacy : Privacy
privacy d left right left-last right-last one other k =
    let l = (demand-3 one.slice one.made-fresh one.calls_made).claim in
    let r = (demand-3 other.slice other.made-fresh other.calls_made).claim in
    let model = model-private d (map call_of left) (map call_of right) k in
    let b = book_after left in
    let c = book_after right in
    let fine-b = run-well-formed (map call_of left) in
    let fine-c = run-well-formed (map call_of right) in
    record {
      answers-same = rw (l.model_answers, r.model_answers) at model.answers-same;
      rows_same = rw (l.model_store, r.model_store) (rows_alike d b c fine-b fine-c model.books-alike);
      desks_same = λ e n. rw (l.model_store, r.model_store) (desks-alike d b c fine-b fine-c model.books-alike e n);
      opened_same = rw (l.model_store, r.model_store) (opened-alike d b c fine-b fine-c model.books-alike);
    }
