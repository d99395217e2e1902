-- `sfdu_list_text::window::drain` meets its contract. The loop's invariant is `Round`: the text so far is that of the window before `at`, however
-- the stream goes on. The measure is what is left of the window. Assumes nothing.
use Prim.Native.Nat.{◌-◌}
use lib.ListN.{length}
use Rattle.sfdu_list_text.proofs.Draining.{Round}
use Rattle.sfdu_list_text.proofs.window.drain.Given as goal

abbrev pub invariant-loop-kind : goal.invariant-loop-kind
invariant-loop-kind l = Round l.w l.place l.last l.initial.out l.start l.out l.at l.end

abbrev pub decreases-loop-kind : goal.decreases-loop-kind
decreases-loop-kind l = length l.w - l.at
