-- `ledger_judged::drop` meets its contract. Assumes nothing.
use native.Mathlib.Omega.{arith}
use mathlib.Core.List.{[], ◌∷◌}
use mathlib.Core.Path.{refl, ap, ◌∙◌}
use borrow.Author.Tests.{not-false, ltb-true}
use Rattle.ledger_model.specs.Step.{Drop, refusals, effect, after_refusal}
use Rattle.ledger_sheet.specs.Sheet.{desk_count}
use Rattle.ledger_judged.proofs.Judged.{handed, refused-is, accepted-is, fine-is}
use Rattle.ledger_judged.proofs.drop.Goals as goal

pub returns-in_err-desk_verdict : goal.returns-in_err-desk_verdict
unfolding after_refusal
returns-in_err-desk_verdict c =
    let g = c.args in
    rw (handed c.from_residual.ensures)
    (refused-is (Drop g.desk) g.s.now c.slice_known-1.given (λ _. refl) _ c.in_err-desk_verdict.ensures)

pub clear_desk-requires : goal.clear_desk-requires
unfolding refusals
clear_desk-requires c =
    let g = c.args in
    let fine = fine-is (Drop g.desk) g.s.now c.in_ok-desk_verdict.ensures in
    (fine.0, omega (arith, ltb-true g.desk desk_count (not-false _ fine.1.0)))

pub returns : goal.returns
unfolding effect
returns c =
    let g = c.args in
    ap (λ t. (0 ∷ [], t)) c.clear_desk.ensures
    ∙ accepted-is (Drop g.desk) g.s.now c.in_ok-desk_verdict.ensures
