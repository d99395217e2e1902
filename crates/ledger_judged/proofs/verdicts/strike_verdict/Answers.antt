-- `strike_verdict` meets its contract. Assumes nothing.
use mathlib.Core.Bool.{not-not}
use mathlib.Core.Path.{refl, sym, ◌∙◌}
use native.Mathlib.Omega.{arith}
use Rattle.refusals.specs.Judge.{◌when◌}
use Rattle.ledger_layout.specs.Layout.{book_of}
use Rattle.ledger_model.specs.Book.{place, is_free}
use Rattle.ledger_model.specs.Step.{refusals}
use Rattle.ledger_judged.proofs.Judged.{Begun, begun, handed, refused-first, stops, passes, none_left}
use Rattle.ledger_judged.proofs.verdicts.strike_verdict.Goals as goal
use Rattle.ledger_judged.proofs.verdicts.strike_verdict.Goals.{In_ok-row_verdict}

pub returns-in_err-row_verdict : goal.returns-in_err-row_verdict
unfolding refusals
returns-in_err-row_verdict c = rw (handed c.from_residual.ensures) (refused-first _ refl _ _ c.in_err-row_verdict.ensures _)

-- Where the first two rules pass.
begins : (c : In_ok-row_verdict) → let a = c.args in Begun a.s.now (25 when is_free (place (book_of a.s.now) a.row))
unfolding refusals
begins c = begun _ refl _ (omega arith) c.in_ok-row_verdict.ensures

pub is_idle-requires : goal.is_idle-requires
is_idle-requires c = (begins c).is-sheet

pub returns-then-not-is_idle : goal.returns-then-not-is_idle
unfolding refusals
returns-then-not-is_idle c = sym ((begins (goal.at.returns-then-not-is_idle c).In_ok-row_verdict).rest _
    ∙ stops _ _ (rw (c.is_idle.ensures, not-not) at c.if-not-is_idle.true-raw))

pub returns : goal.returns
unfolding refusals
returns c = sym ((begins (goal.at.returns c).In_ok-row_verdict).rest _ ∙ passes _ _ (rw (c.is_idle.ensures, not-not) at c.if-not-is_idle.false-raw) ∙ none_left)
