-- `calls::is_written` meets its contract. Assumes nothing.
use Rattle.refusals.proofs.Laws.{number-positive}
use Rattle.ledger_replay.specs.inner.Numbered.{numbers_of}
use Rattle.ledger_replay.proofs.Turns.{same-accepted, same-refused}
use Rattle.ledger_replay.proofs.calls.is_written.Goals as goal

pub returns-in-Ok : goal.returns-in-Ok
returns-in-Ok c = rw c.in-Ok.is (same-accepted (numbers_of c.args.x) c.in-Ok.row _ c.written_row.ensures)

pub returns-in-Err : goal.returns-in-Err
returns-in-Err c = rw (c.in-Err.is, c.number.ensures) (same-refused (numbers_of c.args.x) _ (number-positive c.in-Err.why))
