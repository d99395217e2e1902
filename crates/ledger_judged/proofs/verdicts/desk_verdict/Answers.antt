-- `desk_verdict` meets its contract. Assumes nothing.
use mathlib.Core.Bool.{not}
use mathlib.Core.Path.{sym, ◌∙◌}
use borrow.Author.Tests.{not-false, ltb-true}
use native.Mathlib.Omega.{arith}
use Rattle.refusals.specs.Judge.{◌when◌}
use Rattle.ledger_model.specs.Book.{is_desk}
use Rattle.ledger_model.specs.Step.{refusals}
use Rattle.ledger_judged.proofs.Judged.{Begun, begun, handed, refused-first, stops, passes, none_left}
use Rattle.ledger_judged.proofs.verdicts.desk_verdict.Goals as goal
use Rattle.ledger_judged.proofs.verdicts.desk_verdict.Goals.{In_ok-desk_number_verdict}

pub returns-in_err-desk_number_verdict : goal.returns-in_err-desk_number_verdict
unfolding refusals
returns-in_err-desk_number_verdict c = rw (handed c.from_residual.ensures) (refused-first _ c.requires _ _ c.in_err-desk_number_verdict.ensures _)

-- Where the first two rules pass.
begins : (c : In_ok-desk_number_verdict) → let a = c.args in Begun a.s.now (21 when not (is_desk a.desk))
begins c = begun _ c.requires _ (omega arith) c.in_ok-desk_number_verdict.ensures

pub is_closed-requires : goal.is_closed-requires
is_closed-requires c = ((begins c).is-sheet, ltb-true _ _ (not-false _ (begins c).passed))

pub returns-then-is_closed : goal.returns-then-is_closed
unfolding refusals
returns-then-is_closed c = sym ((begins (goal.at.returns-then-is_closed c).In_ok-desk_number_verdict).rest _ ∙ stops _ _ (rw c.is_closed.ensures at c.if-is_closed.true))

pub returns : goal.returns
unfolding refusals
returns c = sym ((begins (goal.at.returns c).In_ok-desk_number_verdict).rest _ ∙ passes _ _ (rw c.is_closed.ensures at c.if-is_closed.false) ∙ none_left)
