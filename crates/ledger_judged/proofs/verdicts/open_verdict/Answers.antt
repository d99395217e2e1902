-- `open_verdict` meets its contract. Assumes nothing.
use mathlib.Core.Bool.{not, not-not}
use mathlib.Core.List.{[], ◌∷◌}
use mathlib.Core.Path.{◌≡◌, sym, ◌∙◌}
use borrow.Author.Tests.{not-false, ltb-true}
use native.Mathlib.Omega.{arith}
use Rattle.refusals.specs.Judge.{◌when◌, verdict}
use Rattle.ledger_layout.specs.Layout.{book_of}
use Rattle.ledger_layout.specs.inner.Rules.{rules_on}
use Rattle.ledger_sheet.specs.Sheet.{desk_count}
use Rattle.ledger_model.specs.Book.{desk, is_desk, is_open}
use Rattle.ledger_model.specs.Step.{Open, refusals}
use Rattle.ledger_judged.proofs.Judged.{Begun, begun, handed, refused-first, stops, passes, none_left}
use Rattle.ledger_judged.proofs.verdicts.open_verdict.Goals as goal
use Rattle.ledger_judged.proofs.verdicts.open_verdict.Goals.{In_ok-desk_number_verdict, Else-not-is_row}

pub returns-in_err-desk_number_verdict : goal.returns-in_err-desk_number_verdict
unfolding refusals
returns-in_err-desk_number_verdict c = rw (handed c.from_residual.ensures) (refused-first _ c.requires _ _ c.in_err-desk_number_verdict.ensures _)

-- Where the first two rules pass.
begins : (c : In_ok-desk_number_verdict) → let a = c.args in Begun a.s.now (21 when not (is_desk a.desk))
begins c = begun _ c.requires _ (omega arith) c.in_ok-desk_number_verdict.ensures

pub is_row-requires : goal.is_row-requires
is_row-requires c = (begins c).is-sheet

pub returns-then-not-is_row : goal.returns-then-not-is_row
unfolding refusals
returns-then-not-is_row c = sym ((begins (goal.at.returns-then-not-is_row c).In_ok-desk_number_verdict).rest _
    ∙ stops _ _ (rw (c.is_row.ensures, not-not) at c.if-not-is_row.true-raw))

pub is_closed-requires : goal.is_closed-requires
is_closed-requires c =
    let b = begins (goal.at.is_closed-requires c).In_ok-desk_number_verdict in
    (b.is-sheet, omega (arith, ltb-true c.args.desk desk_count (not-false _ b.passed)))

-- Where the first three pass.
there : (c : Else-not-is_row) → let a = c.args in
    verdict (rules_on (Open a.desk a.row) a.s.now) ≡ verdict ((26 when is_open (desk (book_of a.s.now) a.desk)) ∷ [])
unfolding refusals
there c = (begins (goal.at.Else-not-is_row c).In_ok-desk_number_verdict).rest _ ∙ passes _ _ (rw (c.is_row.ensures, not-not) at c.if-not-is_row.false-raw)

pub returns-then-not-is_closed : goal.returns-then-not-is_closed
returns-then-not-is_closed c = sym (there (goal.at.returns-then-not-is_closed c).Else-not-is_row
    ∙ stops _ _ (rw (c.is_closed.ensures, not-not) at c.if-not-is_closed.true-raw))

pub returns : goal.returns
returns c = sym (there (goal.at.returns c).Else-not-is_row ∙ passes _ _ (rw (c.is_closed.ensures, not-not) at c.if-not-is_closed.false-raw) ∙ none_left)
