-- `bench::tapes::reduced_onto` meets its contract. Assumes nothing.
use Rattle.bench.proofs.tapes.reduced_onto.Goals as goal

pub returns : goal.returns
returns c = rw (c.reduction_onto.ensures, c.status_onto.ensures, c.counted.ensures)
