-- `sfdu_lists::list_entries` meets its contract. The loop's invariant is `Round` of `Rows.antt`; the measure is the
-- number of entries that are free. Assumes nothing.
use Prim.Native.Nat.{◌-◌}
use Rattle.sfdu_lists.proofs.Rows.{Round}
use Rattle.sfdu_lists.proofs.list_entries.Given as goal

abbrev pub invariant-loop-turn : goal.invariant-loop-turn
invariant-loop-turn l = Round l.s l.initial.table l.size l.at l.i l.table

abbrev pub decreases-loop-turn : goal.decreases-loop-turn
decreases-loop-turn l = l.size - l.i
