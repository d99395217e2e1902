-- `row_verdict` meets its contract. Assumes nothing.
use mathlib.Core.Bool.{not-not}
use mathlib.Core.Path.{sym, ◌∙◌}
use Rattle.laws.proofs.Bools.{passed}
use Rattle.ledger_sheet.proofs.Clauses.{right-parts}
use Rattle.ledger_model.specs.Step.{refusals}
use Rattle.ledger_judged.proofs.Judged.{stops, passes, none_left}
use Rattle.ledger_judged.proofs.verdicts.row_verdict.Goals as goal

pub returns-then-not-fine : goal.returns-then-not-fine
returns-then-not-fine c = sym (stops _ _ (rw c.requires at c.if-not-fine.true-raw))

pub is_row-requires : goal.is_row-requires
is_row-requires c = let r = passed c.requires c.if-not-fine.false-raw in (r, (right-parts _ r).long)

pub returns-then-not-is_row : goal.returns-then-not-is_row
unfolding refusals
returns-then-not-is_row c =
    sym (passes _ _ (rw c.requires at c.if-not-fine.false-raw) ∙ stops _ _ (rw (c.is_row.ensures, not-not) at c.if-not-is_row.true-raw))

pub returns : goal.returns
unfolding refusals
returns c =
    sym (passes _ _ (rw c.requires at c.if-not-fine.false-raw) ∙ passes _ _ (rw (c.is_row.ensures, not-not) at c.if-not-is_row.false-raw) ∙ none_left)
