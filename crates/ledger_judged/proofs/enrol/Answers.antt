-- `ledger_judged::enrol` meets its contract. Assumes nothing.
use mathlib.Core.Path.{refl}
use Rattle.ledger_model.specs.Step.{Enrol, refusals, effect, after_refusal}
use Rattle.ledger_judged.proofs.Judged.{handed, refused-is, accepted-is, fine-is}
use Rattle.ledger_judged.proofs.enrol.Goals as goal

pub returns-in_err-enrol_verdict : goal.returns-in_err-enrol_verdict
unfolding after_refusal
returns-in_err-enrol_verdict c =
    let g = c.args in
    rw (handed c.from_residual.ensures)
    (refused-is (Enrol g.key g.first) g.s.now c.slice_known-1.given (λ _. refl) _ c.in_err-enrol_verdict.ensures)

pub enrol_row-requires : goal.enrol_row-requires
unfolding refusals
enrol_row-requires c =
    let g = c.args in
    let fine = fine-is (Enrol g.key g.first) g.s.now c.in_ok-enrol_verdict.ensures in
    (fine.0, fine.1.1.1.1.0)

pub returns : goal.returns
unfolding effect
returns c =
    let g = c.args in
    let row = c.enrol_row.ensures in
    rw (row.enrolled, row.lowest) (accepted-is (Enrol g.key g.first) g.s.now c.in_ok-enrol_verdict.ensures)
