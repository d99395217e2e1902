-- Each turn leaves less room. Assumes nothing.
use Rattle.std.proofs.Common.{◌-◌}
use Rattle.streaming.proofs.Reading.{Reads}
use Rattle.streaming.proofs.read_up_to.Given as goal

abbrev pub invariant-loop-at : goal.invariant-loop-at
invariant-loop-at g l = Reads l.fn.w l.have l.want l.w l.at

abbrev pub decreases-loop-at : goal.decreases-loop-at
decreases-loop-at g l = l.want - l.at
