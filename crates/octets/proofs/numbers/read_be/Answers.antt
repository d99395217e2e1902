-- `octets::numbers::read_be` meets its contract. Assumes nothing.
use Rattle.octets.proofs.numbers.read_be.Goals as goal

pub returns-then-n-eq-LONG : goal.returns-then-n-eq-LONG
returns-then-n-eq-LONG c = rw c.if-n-eq-LONG.true c.read_u64.ensures
