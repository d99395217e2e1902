-- `desk` meets its contract. Assumes nothing.
use Prim.Native.Nat.{◌<◌}
use native.Mathlib.Omega.{arith}
use mathlib.Core.Bool.{true, false, cond, not, true≢false}
use mathlib.Core.List.{List, [], ◌∷◌}
use mathlib.Core.Path.{◌≡◌, refl, sym, ap, ◌∙◌}
use borrow.Author.Tests.{not-false, ltb-true}
use Rattle.refusals.specs.Judge.{verdict}
use Rattle.ledger_model.specs.Positions.{same}
use Rattle.ledger_model.specs.Book.{Place, Desk, closed, working, Book, place, desk, ticks_of, is_open, place_of, opened_of}
use Rattle.ledger_model.specs.Counts.{flag_number, desk_state}
use Rattle.ledger_model.specs.Step.{Ask, DeskState, refusals, asked, after_refusal}
use Rattle.ledger_sheet.specs.Sheet.{desk_count}
use Rattle.ledger_layout.specs.Layout.{book_of}
use Rattle.ledger_layout.specs.inner.Rules.{rules_on, IsSheet}
use Rattle.ledger_layout.proofs.Readers.{place-in}
use Rattle.ledger_layout.proofs.Scans.{row-opened, none-opened}
use Rattle.ledger_judged.proofs.Judged.{handed, refused-is, answered-is, fine-is}
use Rattle.ledger.proofs.desk.Goals as goal
use Rattle.ledger.proofs.desk.Goals.{In_ok-desk_number_verdict, In-Some}

-- What is told of a desk, by whether it is open.
closed-state : (ps : List Place) (x : Desk) → is_open x ≡ false → [] ≡ desk_state ps x
closed-state ps closed e = refl
closed-state ps (working r opened worked) e = absurd (true≢false e)

open-state : (b : Book) (x : Desk) → is_open x ≡ true
    → place_of x ∷ flag_number (not (same (ticks_of (place b (place_of x))) (opened_of x))) ∷ [] ≡ desk_state b.places x
open-state b closed e = absurd (true≢false (sym e))
open-state b (working r opened worked) e = refl

pub returns-in_err-desk_number_verdict : goal.returns-in_err-desk_number_verdict
unfolding refusals after_refusal
returns-in_err-desk_number_verdict c =
    let g = c.args in
    let number = rw c.is_sheet.ensures at c.in_err-desk_number_verdict.ensures in
    rw (handed c.from_residual.ensures)
    (refused-is (Ask (DeskState g.desk)) g.s.now c.shared_slice_known-1.given (λ _. refl) _ number)

-- The verdict is by the question's own rules.
accepted : (c : In_ok-desk_number_verdict) → let g = c.args in 0 ≡ verdict (rules_on (Ask (DeskState g.desk)) g.s.now)
unfolding refusals
accepted c = rw c.is_sheet.ensures at c.in_ok-desk_number_verdict.ensures

-- Where the call is not refused, there is such a desk.
there : (c : In_ok-desk_number_verdict) → let g = c.args in IsSheet g.s.now × (g.desk < desk_count)
unfolding refusals
there c =
    let g = c.args in
    let fine = fine-is (Ask (DeskState g.desk)) g.s.now (accepted c) in
    (fine.0, ltb-true g.desk desk_count (not-false _ fine.1.0))

pub open_row-requires : goal.open_row-requires
open_row-requires c = let h = there c in (h.0, omega arith)

pub returns-in_default : goal.returns-in_default
unfolding asked
returns-in_default c =
    let g = c.args in
    let b = book_of g.s.now in
    let shut = none-opened _ (sym c.open_row.ensures ∙ c.in_default.is) in
    ap (λ w. (0 ∷ w, g.s.now)) (closed-state b.places (desk b g.desk) shut)
    ∙ answered-is (DeskState g.desk) g.s.now c.shared_slice_known-1.given (accepted (goal.at.returns-in_default c).In_ok-desk_number_verdict)

-- Where it has a row open.
opened : (c : In-Some) → let g = c.args in
    (is_open (desk (book_of g.s.now) g.desk) ≡ true) × (c.in-Some.row ≡ place_of (desk (book_of g.s.now) g.desk))
opened c = row-opened _ (sym c.open_row.ensures ∙ c.in-Some.is)

pub overflow_cast-result : goal.overflow_cast-result
overflow_cast-result c =
    let h = there (goal.at.overflow_cast-result c).In_ok-desk_number_verdict in
    let o = opened c in
    omega (arith, o.1, place-in _ _ h.1 h.0.0 o.0)

pub is_current-requires : goal.is_current-requires
is_current-requires c =
    let h = there (goal.at.is_current-requires c).In_ok-desk_number_verdict in
    (h.0, omega arith, (opened c).0)

pub returns : goal.returns
unfolding asked
returns c =
    let g = c.args in
    let b = book_of g.s.now in
    let o = opened (goal.at.returns c).In-Some in
    let words : c.in-Some.row ∷ cond (not c.is_current.result) 1 0 ∷ [] ≡ desk_state b.places (desk b g.desk) =
    rw (o.1, c.is_current.ensures) (open-state b (desk b g.desk) o.0) in
    ap (λ w. (0 ∷ w, g.s.now)) words
    ∙ answered-is (DeskState g.desk) g.s.now c.shared_slice_known-1.given (accepted (goal.at.returns c).In_ok-desk_number_verdict)
