-- `sfdu_lists::fill` meets its contract. The loop's invariant is `Round` of `Columns.antt`, of the values in the four lists; the measure is the
-- number of entries that are free. Assumes nothing.
use native.Mathlib.Omega.{arith}
use mathlib.Core.List.{map}
use mathlib.Core.Path.{sym, ◌∙◌}
use lib.ListN.{length-map}
use Rattle.std.proofs.lemmas.List.{map-set}
use Rattle.sfdu_stream.specs.Listing.{Columns}
use Rattle.sfdu_lists.proofs.Columns.{begins, Stored, stores, same, finished}
use Rattle.sfdu_lists.proofs.fill.Given.{Over}
use Rattle.sfdu_lists.proofs.fill.Goals as goal
use Rattle.sfdu_lists.proofs.fill.Goals.{In-Ok}

pub loop-turn-init : goal.loop-turn-init
loop-turn-init g c =
    let v = g.N.Number.value in
    begins _ _ _ (c.shortest-size.ensures ∙ sym (rw (length-map c.args.kinds.now v, length-map c.args.numbers.now v)))

-- Where the turn lists a record: there is room for it in each list, and with its numbers stored the next round holds.
listed : (g : Over) (c : In-Ok g) →
    let a = c.args in
    let v = g.N.Number.value in
    let old : Columns = record { places = a.places.now; lengths = a.lengths.now; kinds = map v a.kinds.now; numbers = map v a.numbers.now } in
    let l = c.loop-turn in
    let new : Columns = record { places = l.places; lengths = l.lengths; kinds = map v l.kinds; numbers = map v l.numbers } in
    Stored a.s.now old c.shortest-size.result l.i new c.in-Ok.turn
listed g c = stores _ _ _ _ _ _ c.loop-turn.invariant _ c.in-Ok.ensures

pub bounds-places-i : goal.bounds-places-i
bounds-places-i g c = (listed g (goal.at.bounds-places-i g c).In-Ok).within.places

pub bounds-lengths-i : goal.bounds-lengths-i
bounds-lengths-i g c = (listed g (goal.at.bounds-lengths-i g c).In-Ok).within.lengths

pub bounds-kinds-i : goal.bounds-kinds-i
bounds-kinds-i g c = rw length-map at ((listed g (goal.at.bounds-kinds-i g c).In-Ok).within.kinds)

pub bounds-numbers-i : goal.bounds-numbers-i
bounds-numbers-i g c = rw length-map at ((listed g (goal.at.bounds-numbers-i g c).In-Ok).within.numbers)

pub overflow_add-i : goal.overflow_add-i
overflow_add-i g c = omega (arith, (listed g (goal.at.overflow_add-i g c).In-Ok).less)

pub loop-turn-smaller : goal.loop-turn-smaller
loop-turn-smaller g c = omega (arith, (listed g (goal.at.loop-turn-smaller g c).In-Ok).less)

pub loop-turn-preserved : goal.loop-turn-preserved
loop-turn-preserved g c = rw (map-set, map-set, c.of.ensures, c.of-in-Ok.ensures) ((listed g (goal.at.loop-turn-preserved g c).In-Ok).then)

pub shape_of-places-in-Err : goal.shape_of-places-in-Err
shape_of-places-in-Err g c = (same c.loop-turn.invariant).places

pub shape_of-lengths-in-Err : goal.shape_of-lengths-in-Err
shape_of-lengths-in-Err g c = (same c.loop-turn.invariant).lengths

pub shape_of-kinds-in-Err : goal.shape_of-kinds-in-Err
shape_of-kinds-in-Err g c = simp length-map at ((same c.loop-turn.invariant).kinds)

pub shape_of-numbers-in-Err : goal.shape_of-numbers-in-Err
shape_of-numbers-in-Err g c = simp length-map at ((same c.loop-turn.invariant).numbers)

pub returns-in-Err : goal.returns-in-Err
returns-in-Err g c =
    finished _ _ _ _ _ _ c.loop-turn.invariant _ c.in-Err.ensures
