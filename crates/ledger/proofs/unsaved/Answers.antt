-- `unsaved` meets its contract. Assumes nothing.
use Prim.Native.Nat.{◌<◌}
use native.Mathlib.Omega.{arith}
use mathlib.Core.Bool.{true}
use mathlib.Core.List.{[], ◌∷◌}
use mathlib.Core.Path.{◌≡◌, refl, ap, ◌∙◌}
use borrow.Author.Tests.{not-false, ltb-true}
use Rattle.ledger_model.specs.Book.{desk, is_open}
use Rattle.ledger_model.specs.Counts.{desk_unsaved}
use Rattle.ledger_model.specs.Step.{Ask, Unsaved, refusals, asked, after_refusal}
use Rattle.ledger_sheet.specs.Sheet.{desk_count}
use Rattle.ledger_layout.specs.Layout.{book_of}
use Rattle.ledger_layout.specs.inner.Rules.{IsSheet}
use Rattle.ledger_layout.proofs.Readers.{desk-read-on}
use Rattle.ledger_judged.proofs.Judged.{handed, refused-is, answered-is, fine-is}
use Rattle.ledger.proofs.unsaved.Goals as goal
use Rattle.ledger.proofs.unsaved.Goals.{In_ok-desk_verdict}

pub returns-in_err-desk_verdict : goal.returns-in_err-desk_verdict
unfolding refusals after_refusal
returns-in_err-desk_verdict c =
    let g = c.args in
    rw (handed c.from_residual.ensures)
    (refused-is (Ask (Unsaved g.desk)) g.s.now c.shared_slice_known-1.given (λ _. refl) _ c.in_err-desk_verdict.ensures)

-- Where the call is not refused, there is such a desk, and it has a row open.
there : (c : In_ok-desk_verdict) → let g = c.args in
    IsSheet g.s.now × (g.desk < desk_count) × (is_open (desk (book_of g.s.now) g.desk) ≡ true)
unfolding refusals
there c =
    let g = c.args in
    let fine = fine-is (Ask (Unsaved g.desk)) g.s.now c.in_ok-desk_verdict.ensures in
    (fine.0, ltb-true g.desk desk_count (not-false _ fine.1.0), not-false _ fine.1.1.0)

pub desk_at-a-requires : goal.desk_at-a-requires
desk_at-a-requires c = let h = there c in omega (arith, h.1)

pub ticked_beyond-requires : goal.ticked_beyond-requires
ticked_beyond-requires c =
    let h = there (goal.at.ticked_beyond-requires c).In_ok-desk_verdict in
    let at = c.desk_at-a.ensures in
    (omega (arith, h.0.1, h.1), omega (arith, h.0.1, h.1))

pub ticked_beyond-requires-2 : goal.ticked_beyond-requires-2
ticked_beyond-requires-2 c =
    let h = there (goal.at.ticked_beyond-requires-2 c).In_ok-desk_verdict in
    let at = c.desk_at-a.ensures in
    (omega (arith, h.0.1, h.1), omega (arith, h.0.1, h.1))

pub returns : goal.returns
unfolding refusals asked
returns c =
    let g = c.args in
    let b = book_of g.s.now in
    let h = there (goal.at.returns c).In_ok-desk_verdict in
    let words : c.ticked_beyond.result ∷ c.ticked_beyond-2.result ∷ [] ≡ desk_unsaved (desk b g.desk) =
    rw (desk-read-on g.s.now g.desk h.1 h.2, c.ticked_beyond.ensures, c.ticked_beyond-2.ensures, c.desk_at-a.ensures) in
    ap (λ w. (0 ∷ w, g.s.now)) words
    ∙ answered-is (Unsaved g.desk) g.s.now c.shared_slice_known-1.given c.in_ok-desk_verdict.ensures
