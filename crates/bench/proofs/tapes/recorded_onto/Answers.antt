-- `bench::tapes::recorded_onto` meets its contract. Assumes nothing.
use Rattle.bench.proofs.tapes.recorded_onto.Goals as goal

pub returns : goal.returns
returns c = rw (c.origin_onto.ensures, c.time_onto.ensures, c.recorder_onto.ensures)
