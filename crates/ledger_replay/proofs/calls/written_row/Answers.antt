-- `calls::written_row` meets its contract. Assumes nothing.
use mathlib.Core.Path.{sym}
use borrow.Author.Tests.{eq-eqb}
use Rattle.ledger_replay.specs.inner.Numbered.{numbers_of}
use Rattle.ledger_replay.proofs.Numbered.{no-enrolment}
use Rattle.ledger_replay.proofs.Turns.{written-other, written_row}
use Rattle.ledger_replay.proofs.calls.written_row.Goals as goal

pub returns-in-Enrol : goal.returns-in-Enrol
returns-in-Enrol c = λ z. sym (written_row (numbers_of c.args.x) (rw c.in-Enrol.is) (eq-eqb _ _ z))

pub returns-in_default : goal.returns-in_default
returns-in_default c = λ z. sym (written-other (numbers_of c.args.x) (no-enrolment _ c.in_default.not-Enrol))
