-- `ledger_judged::strike` meets its contract. Assumes nothing.
use mathlib.Core.List.{[], ◌∷◌}
use mathlib.Core.Path.{refl, ap, ◌∙◌}
use Rattle.ledger_model.specs.Step.{Strike, refusals, effect, after_refusal}
use Rattle.ledger_judged.proofs.Judged.{handed, refused-is, accepted-is, fine-is}
use Rattle.ledger_judged.proofs.strike.Goals as goal

pub returns-in_err-strike_verdict : goal.returns-in_err-strike_verdict
unfolding after_refusal
returns-in_err-strike_verdict c =
    let g = c.args in
    rw (handed c.from_residual.ensures)
    (refused-is (Strike g.row) g.s.now c.slice_known-1.given (λ _. refl) _ c.in_err-strike_verdict.ensures)

pub strike_row-requires : goal.strike_row-requires
unfolding refusals
strike_row-requires c =
    let g = c.args in
    let fine = fine-is (Strike g.row) g.s.now c.in_ok-strike_verdict.ensures in
    (fine.0, fine.1.0, fine.1.1.0)

pub returns : goal.returns
unfolding effect
returns c =
    let g = c.args in
    ap (λ t. (0 ∷ [], t)) c.strike_row.ensures
    ∙ accepted-is (Strike g.row) g.s.now c.in_ok-strike_verdict.ensures
