-- `rsr_samples::input::wanted` meets its contract. Assumes nothing.
use Rattle.std.proofs.Common.{sym, arith}
use Rattle.sfdu.specs.Read.{label_length, record_length}
use Rattle.rsr_samples.proofs.Read.{wanted-over, wanted-whole}
use Rattle.rsr_samples.proofs.input.wanted.Goals as goal

pub returns-then-after : goal.returns-then-after
unfolding record_length label_length
returns-then-after c = sym (wanted-over _ (omega (arith, c.read_be-after.ensures)))

pub returns : goal.returns
unfolding record_length label_length
returns c = rw c.read_be-after.ensures (sym (wanted-whole _ (omega (arith, c.read_be-after.ensures))))
