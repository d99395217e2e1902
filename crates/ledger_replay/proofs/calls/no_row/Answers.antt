-- `calls::no_row` meets its contract. Assumes nothing.
use Rattle.ledger_judged.proofs.Judged.{handed}
use Rattle.ledger_replay.specs.Replay.{call_answer}
use Rattle.ledger_replay.proofs.calls.no_row.Goals as goal

pub returns-in_err-answer : goal.returns-in_err-answer
returns-in_err-answer c = rw (handed c.from_residual.ensures, c.in_err-answer.was)

pub returns : goal.returns
unfolding call_answer
returns c = rw c.in_ok-answer.was
