-- `sfdu_stream::walking::walk` meets its contract. Assumes nothing.
use native.Mathlib.Omega.{arith}
use mathlib.Core.Bool.{false}
use mathlib.Core.Path.{◌≡◌, sym}
use Rattle.sfdu_stream.specs.Walk.{whole}
use Rattle.sfdu_stream.proofs.Places.{OnePast, size-whole, size_none}
use Rattle.sfdu_stream.proofs.Passed.{begins, passes, finished}
use Rattle.sfdu_stream.proofs.walking.walk.Goals as goal
use Rattle.sfdu_stream.proofs.walking.walk.Goals.{In-Some, In_default}

pub loop-size-init : goal.loop-size-init
loop-size-init c = begins _

-- Where a whole record stands: the next place is the one past it.
goes_on : (c : In-Some) → OnePast c.args.s.now c.loop-size.at c.in-Some.size
goes_on c = size-whole _ _ _ c.whole_size.ensures _ c.in-Some.is

pub overflow_add-at : goal.overflow_add-at
overflow_add-at c = omega (arith, (goes_on (goal.at.overflow_add-at c).In-Some).within)

pub loop-size-smaller : goal.loop-size-smaller
loop-size-smaller c = let next = goes_on (goal.at.loop-size-smaller c).In-Some in omega (arith, next.further, next.within)

pub loop-size-preserved : goal.loop-size-preserved
loop-size-preserved c = let next = goes_on (goal.at.loop-size-preserved c).In-Some in rw next.next (passes _ _ _ c.loop-size.invariant next.is_whole)

-- Where none does.
none-there : (c : In_default) → whole c.args.s.now c.loop-size.at ≡ false
none-there c = size_none _ _ _ c.whole_size.ensures c.in_default.is

pub stop_at-requires : goal.stop_at-requires
stop_at-requires c = none-there (goal.at.stop_at-requires c).In_default

pub returns : goal.returns
returns c = finished _ c.loop-size.at c.loop-size.count c.loop-size.invariant _ (none-there (goal.at.returns c).In_default) (sym c.stop_at.ensures)
