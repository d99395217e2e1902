-- `sfdu::whole::size_as` meets its contract. Assumes nothing.
use Prim.Native.Nat.{◌+◌}
use mathlib.Core.Path.{◌≡◌, sym, ap, ◌∙◌}
use Rattle.std.specs.Prelude.{Some}
use native.Mathlib.Omega.{arith}
use Rattle.laws.proofs.Bools.{failed, passed}
use Rattle.refusals.specs.Judge.{judge}
use Rattle.sfdu.specs.Nesting.{label_size}
use Rattle.sfdu.specs.Read.{length_in_range}
use Rattle.sfdu.proofs.Placed.{placed}
use Rattle.sfdu.proofs.Lengths.{say-range, Ranged, ranged}
use Rattle.sfdu.proofs.whole.size_as.Goals as goal
use Rattle.sfdu.proofs.whole.size_as.Goals.{After-length_in_range, Else-not-length_in_range}

-- What the test of the length says.
said : (c : After-length_in_range) → let a = c.args in c.length_in_range.result ≡ length_in_range a.kind a.s.now
said c = say-range _ _ _ c.label_length-after.ensures c.length_in_range.ensures

pub returns-then-not-length_in_range : goal.returns-then-not-length_in_range
unfolding judge
returns-then-not-length_in_range c = rw (failed (said (goal.at.returns-then-not-length_in_range c).After-length_in_range) c.if-not-length_in_range.true-raw)

-- Past it the length is in the kind's range.
in-range : (c : Else-not-length_in_range) → let a = c.args in
    Ranged a.kind a.s.now (label_size + c.label_length-after.result)
in-range c = ranged _ _ _ c.label_length-after.ensures (passed (said
    (goal.at.Else-not-length_in_range c).After-length_in_range) c.if-not-length_in_range.false-raw)

pub overflow_add-size : goal.overflow_add-size
overflow_add-size c = let p = placed c.args.kind in omega (arith, (in-range (goal.at.overflow_add-size c).Else-not-length_in_range).most)

pub returns-then-s-size : goal.returns-then-s-size
unfolding judge
returns-then-s-size c = let r = in-range (goal.at.returns-then-s-size c).Else-not-length_in_range in rw (r.in-its-range, r.cut c.if-s-size.true)

pub has_blocks-requires : goal.has_blocks-requires
has_blocks-requires c = let r = in-range (goal.at.has_blocks-requires c).Else-not-length_in_range in (r.size_is, r.least, r.most, c.if-s-size.false)

pub returns-then-has_blocks : goal.returns-then-has_blocks
unfolding judge
returns-then-has_blocks c =
    let r = in-range (goal.at.returns-then-has_blocks c).Else-not-length_in_range in
    rw (r.in-its-range, r.uncut c.if-s-size.false, sym c.has_blocks.ensures ∙ c.if-has_blocks.true) (ap Some r.size_is)

pub returns : goal.returns
unfolding judge
returns c =
    let r = in-range (goal.at.returns c).Else-not-length_in_range in
    rw (r.in-its-range, r.uncut c.if-s-size.false, sym c.has_blocks.ensures ∙ c.if-has_blocks.false)
