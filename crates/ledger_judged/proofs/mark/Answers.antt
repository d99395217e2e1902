-- `ledger_judged::mark` meets its contract. Assumes nothing.
use native.Mathlib.Omega.{arith}
use mathlib.Core.Path.{refl, ◌∙◌}
use borrow.Author.Tests.{not-false, ltb-true}
use Rattle.ledger_model.specs.Step.{Mark, Drop, refusals, after_refusal}
use Rattle.ledger_layout.specs.Layout.{call}
use Rattle.ledger_layout.proofs.Rules.{on-right}
use Rattle.ledger_sheet.specs.Sheet.{desk_count}
use Rattle.ledger_judged.proofs.Judged.{handed, fine-is, begun-refused}
use Rattle.ledger_judged.proofs.mark.Goals as goal

pub returns-in_err-desk_verdict : goal.returns-in_err-desk_verdict
unfolding refusals after_refusal
returns-in_err-desk_verdict c =
    let g = c.args in
    rw (handed c.from_residual.ensures)
    (begun-refused (Mark g.on g.desk g.number) g.desk g.s.now _ c.slice_known-1.given refl (λ _ h. refl)
    _ c.in_err-desk_verdict.ensures)

pub mark_desk-requires : goal.mark_desk-requires
unfolding refusals
mark_desk-requires c =
    let g = c.args in
    let fine = fine-is (Drop g.desk) g.s.now c.in_ok-desk_verdict.ensures in
    (fine.0, omega (arith, ltb-true g.desk desk_count (not-false _ fine.1.0)), not-false _ fine.1.1.0)

pub returns : goal.returns
returns c =
    let g = c.args in
    let fine = fine-is (Drop g.desk) g.s.now c.in_ok-desk_verdict.ensures in
    c.mark_desk.ensures ∙ on-right (call (Mark g.on g.desk g.number)) g.s.now fine.0.0
