-- `octets::numbers::write_be` meets its contract. The invariant: writing the first i bytes of `left` gives the result. Assumes nothing.
use lib.ListN.{length-set}
use Rattle.octets.proofs.Laws.{put-zero, put-number}
use mathlib.Core.Path.{◌≡◌, refl, sym, ◌∙◌}
use native.Mathlib.Omega.{arith}
use Rattle.octets.proofs.numbers.write_be.Goals as goal

pub loop-i-init : goal.loop-i-init
loop-i-init c = (omega arith, refl, refl)

pub loop-i-preserved : goal.loop-i-preserved
loop-i-preserved c = (omega arith, put-number _ _ _ _ (omega arith) (omega arith) ∙ c.loop-i.invariant.1, rw length-set c.loop-i.invariant.2)

pub returns : goal.returns
returns c =
    let z : c.loop-i.i ≡ 0 = omega arith in
    sym (put-zero _ _ _ _ z) ∙ c.loop-i.invariant.1
