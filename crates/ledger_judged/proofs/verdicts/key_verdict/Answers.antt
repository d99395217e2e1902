-- `key_verdict` meets its contract. Assumes nothing.
use mathlib.Core.Path.{sym, ◌∙◌}
use Rattle.ledger_judged.proofs.Judged.{stops, passes, none_left}
use Rattle.ledger_judged.proofs.verdicts.key_verdict.Goals as goal

pub returns-then-not-fine : goal.returns-then-not-fine
returns-then-not-fine c = sym (stops _ _ c.if-not-fine.true-raw)

pub returns-then-not-valid : goal.returns-then-not-valid
returns-then-not-valid c = sym (passes _ _ c.if-not-fine.false-raw ∙ stops _ _ (rw c.valid.ensures at c.if-not-valid.true-raw))

pub returns : goal.returns
returns c = sym (passes _ _ c.if-not-fine.false-raw ∙ passes _ _ (rw c.valid.ensures at c.if-not-valid.false-raw) ∙ none_left)
