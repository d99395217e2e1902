-- `octets::is_same` meets its contract. The invariant: `any` is zero exactly if the first i bytes are the same.
-- Assumes nothing.
use Prim.Native.Nat.{◌+◌}
use lib.Bits.{bit_xor}
use lib.ListN.{get_or}
use mathlib.Core.Path.{◌≡◌, sym}
use native.Mathlib.Omega.{arith}
use Rattle.octets.specs.Octets.{same_at}
use Rattle.octets.proofs.Laws.{all_none, gathered, xor-zero}
use Rattle.octets.proofs.is_same.Goals as goal

pub loop-i-init : goal.loop-i-init
unfolding same_at
loop-i-init c = (omega arith, sym (all_none _))

pub loop-i-preserved : goal.loop-i-preserved
unfolding same_at
loop-i-preserved c =
    let g = c.args in
    let x = get_or g.s.now (g.a + c.loop-i.i) 0 in
    let y = get_or g.t.now (g.b + c.loop-i.i) 0 in
    (omega arith, gathered _ _ c.loop-i.any (bit_xor x y) c.loop-i.invariant.1 (xor-zero x y))

pub returns : goal.returns
returns c = let e : c.args.n ≡ c.loop-i.i = omega arith in rw e c.loop-i.invariant.1
