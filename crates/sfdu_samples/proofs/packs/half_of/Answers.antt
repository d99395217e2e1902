-- `sfdu_samples::packs::half_of` meets its contract. The invariant: the half is that of the numbers from the last one taken on.
-- Assumes nothing.
use Rattle.std.proofs.Common.{◌≡◌, ◌+◌, ◌-◌, ◌*◌, ◌≤◌, length, get_or, drop, pos, arith, length-drop, w32, to_z, of_z}
use borrow.Author.Rules.{sfits_of}
use mir.ValLaws.{to_z-of_z}
use Rattle.sfdu_samples.specs.Packing.{per_half}
use Rattle.sfdu_samples.proofs.Packed.{coded, coded-drop, half-none, half-small, Turn, turn}
use Rattle.sfdu_samples.proofs.packs.half_of.Goals as goal
use Rattle.sfdu_samples.proofs.packs.half_of.Goals.{In-loop-k, After-z-1}

pub loop-k-init : goal.loop-k-init
loop-k-init c =
    (c.codes-base.ensures, omega (arith, c.per_half-k.ensures), half-none c.args.width.bits _ _ (omega (arith, c.per_half-k.ensures)))

pub offset_bounds-samples-at : goal.offset_bounds-samples-at
offset_bounds-samples-at c = omega (arith, c.well_formed.0.1, c.requires.0, c.loop-k.invariant.1)

taken : (c : In-loop-k)
    →
    Turn c.args.width.bits c.loop-k.k c.args.at c.loop-k.half c.args.samples.now
taken c =
    let all_coded = coded c.args.width.bits c.args.samples.now c.requires.1 in
    turn c.args.width.bits c.loop-k.k c.args.at c.loop-k.half c.args.samples.now
    c.args.width.fills all_coded (omega arith) c.loop-k.invariant.1 c.requires.0 c.loop-k.invariant.2

same : (c : After-z-1)
    →
    let z = get_or c.args.samples.now (c.args.at + 2 * (c.loop-k.k - 1)) (pos 0) in to_z w32 (of_z w32 z) ≡ z
same c = to_z-of_z w32 _ (sfits_of c.z-1.given)

pub overflow_mul-half : goal.overflow_mul-half
overflow_mul-half c = rw c.loop-k.invariant.0 (omega (arith, (taken (goal.at.overflow_mul-half c).In-loop-k).less))

pub code_of-requires : goal.code_of-requires
code_of-requires c =
    (rw (same (goal.at.code_of-requires c).After-z-1) (coded c.args.width.bits c.args.samples.now c.requires.1 _ (omega arith)))

pub overflow_add-half : goal.overflow_add-half
overflow_add-half c =
    rw (c.loop-k.invariant.0, c.code_of.ensures, same (goal.at.overflow_add-half c).After-z-1)
    (omega (arith, (taken (goal.at.overflow_add-half c).In-loop-k).less))

pub loop-k-preserved : goal.loop-k-preserved
loop-k-preserved c = (
  c.loop-k.invariant.0,
  omega arith,
  rw (c.loop-k.invariant.0, c.code_of.ensures, same (goal.at.loop-k-preserved c).After-z-1)
      (taken (goal.at.loop-k-preserved c).In-loop-k).is,
)

pub returns : goal.returns
returns c =
    let all-of-it : per_half c.args.width.bits - c.loop-k.k ≡ per_half c.args.width.bits = omega arith in
    let start : c.args.at + 2 * c.loop-k.k ≡ c.args.at = omega arith in
    let e = rw (all-of-it, start) at c.loop-k.invariant.2 in
    let xs = c.args.samples.now in
    let long : 2 * per_half c.args.width.bits ≤ length (drop c.args.at xs) + 1 = rw length-drop (omega (arith, c.requires.0)) in
    let w = c.args.width.bits in
    let rest = coded-drop w c.args.at xs (coded w xs c.requires.1) in
    (e, rw e (half-small w (per_half w) (drop c.args.at xs) c.args.width.fills rest (omega arith) long))
