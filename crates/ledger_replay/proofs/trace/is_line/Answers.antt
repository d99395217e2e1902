-- `trace::is_line` meets its contract. Assumes nothing.
use Rattle.ledger_replay.specs.Trace.{line_at, is_call, desk_right, row_right, number_right, key_right, line_right}
use Rattle.ledger_replay.proofs.trace.is_line.Goals as goal

pub returns : goal.returns
unfolding line_at line_right is_call desk_right row_right number_right key_right
returns c = rw (c.read_u32-number.ensures, c.read_be-key.ensures)
