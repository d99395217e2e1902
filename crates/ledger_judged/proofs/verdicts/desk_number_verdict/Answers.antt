-- `desk_number_verdict` meets its contract. Assumes nothing.
use mathlib.Core.Bool.{not}
use mathlib.Core.Path.{sym, ap, ◌∙◌}
use borrow.Author.Tests.{lt-ltb, le-ltb}
use Rattle.ledger_judged.proofs.Judged.{stops, passes, none_left}
use Rattle.ledger_judged.proofs.verdicts.desk_number_verdict.Goals as goal

pub returns-then-not-fine : goal.returns-then-not-fine
returns-then-not-fine c = sym (stops _ _ c.if-not-fine.true-raw)

pub returns-then-desk-ge-DESKS : goal.returns-then-desk-ge-DESKS
returns-then-desk-ge-DESKS c = sym (passes _ _ c.if-not-fine.false-raw ∙ stops _ _ (ap not (le-ltb _ _ c.if-desk-ge-DESKS.true)))

pub returns : goal.returns
returns c = sym (passes _ _ c.if-not-fine.false-raw ∙ passes _ _ (ap not (lt-ltb _ _ c.if-desk-ge-DESKS.false)) ∙ none_left)
