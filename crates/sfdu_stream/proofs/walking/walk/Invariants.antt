-- `sfdu_stream::walking::walk` meets its contract. Assumes nothing.
use Prim.Native.Nat.{◌-◌}
use lib.ListN.{length}
use Rattle.sfdu_stream.proofs.Passed.{Passed}
use Rattle.sfdu_stream.proofs.walking.walk.Given as goal

abbrev pub invariant-loop-size : goal.invariant-loop-size
invariant-loop-size l = Passed l.s l.at l.count

abbrev pub decreases-loop-size : goal.decreases-loop-size
decreases-loop-size l = length l.s - l.at
