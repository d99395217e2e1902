-- `trace::is_header` meets its contract. Assumes nothing.
use Rattle.ledger_replay.specs.Trace.{header_right}
use Rattle.ledger_replay.proofs.trace.is_header.Goals as goal

pub returns : goal.returns
unfolding header_right
returns c = rw (c.read_u32-entries.ensures, c.read_u32.ensures, c.read_u32-2.ensures)
