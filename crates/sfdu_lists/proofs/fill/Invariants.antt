-- `sfdu_lists::fill` meets its contract. The loop's invariant is `Round` of `Columns.antt`, of the values in the four lists; the measure is the
-- number of entries that are free. Assumes nothing.
use Prim.Native.Nat.{◌-◌}
use mathlib.Core.List.{map}
use Rattle.sfdu_lists.proofs.Columns.{Round}
use Rattle.sfdu_lists.proofs.fill.Given as goal

abbrev pub invariant-loop-turn : goal.invariant-loop-turn
invariant-loop-turn g l =
    let v = g.N.Number.value in
    Round l.s
    (record { places = l.initial.places; lengths = l.initial.lengths; kinds = map v l.initial.kinds; numbers = map v l.initial.numbers }) l.size l.at l.i
    (record { places = l.places; lengths = l.lengths; kinds = map v l.kinds; numbers = map v l.numbers })

abbrev pub decreases-loop-turn : goal.decreases-loop-turn
decreases-loop-turn g l = l.size - l.i
