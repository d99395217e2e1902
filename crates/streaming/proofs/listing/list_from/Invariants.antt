-- The run that stood at the first state goes on, and the place stays low. Assumes nothing.
use Rattle.std.proofs.Common.{◌-◌}
use Rattle.streaming.specs.Turn.{most_turns}
use Rattle.streaming.proofs.Turning.{Under}
use Rattle.streaming.proofs.listing.list_from.Given as goal

abbrev pub invariant-loop-turn : goal.invariant-loop-turn
invariant-loop-turn g l = Under g.L.Lister.listing l.fn.w l.fn.out l.fn.s l.w l.out l.s (most_turns - l._turn)
