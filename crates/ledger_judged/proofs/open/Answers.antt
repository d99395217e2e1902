-- `ledger_judged::open` meets its contract. Assumes nothing.
use native.Mathlib.Omega.{arith}
use mathlib.Core.List.{[], ◌∷◌}
use mathlib.Core.Path.{refl, ap, ◌∙◌}
use borrow.Author.Tests.{not-false, ltb-true}
use Rattle.ledger_model.specs.Step.{Open, refusals, effect, after_refusal}
use Rattle.ledger_sheet.specs.Sheet.{desk_count}
use Rattle.ledger_layout.proofs.Readers.{row-there}
use Rattle.ledger_judged.proofs.Judged.{handed, refused-is, accepted-is, fine-is}
use Rattle.ledger_judged.proofs.open.Goals as goal

pub returns-in_err-open_verdict : goal.returns-in_err-open_verdict
unfolding after_refusal
returns-in_err-open_verdict c =
    let g = c.args in
    rw (handed c.from_residual.ensures)
    (refused-is (Open g.desk g.row) g.s.now c.slice_known-1.given (λ _. refl) _ c.in_err-open_verdict.ensures)

pub open_desk-requires : goal.open_desk-requires
unfolding refusals
open_desk-requires c =
    let g = c.args in
    let fine = fine-is (Open g.desk g.row) g.s.now c.in_ok-open_verdict.ensures in (
      fine.0,
      omega (arith, ltb-true g.desk desk_count (not-false _ fine.1.0)),
      omega (arith, row-there g.s.now g.row fine.1.1.0),
    )

pub returns : goal.returns
unfolding effect
returns c =
    let g = c.args in
    ap (λ t. (0 ∷ [], t)) c.open_desk.ensures
    ∙ accepted-is (Open g.desk g.row) g.s.now c.in_ok-open_verdict.ensures
