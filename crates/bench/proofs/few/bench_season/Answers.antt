-- `bench::few::bench_season` meets its contract. Assumes nothing.
use Rattle.bench.proofs.Numbers.{season-onto, refused-onto}
use Rattle.bench.proofs.few.bench_season.Goals as goal

pub returns-in-Ok : goal.returns-in-Ok
returns-in-Ok c = rw c.counts_onto.ensures (season-onto c.in-Ok.report (rw c.in-Ok.is at c.season.ensures))

pub returns-in-Err : goal.returns-in-Err
returns-in-Err c = refused-onto c.in-Err.field-0 (rw c.in-Err.is at c.season.ensures)
