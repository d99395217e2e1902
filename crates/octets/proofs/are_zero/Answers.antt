-- `octets::are_zero` meets its contract. The invariant: `any` is zero exactly if the first i bytes of each range are.
-- Assumes nothing.
use mathlib.Core.Path.{◌≡◌, sym, ◌∙◌}
use native.Mathlib.Omega.{arith}
use Rattle.octets.proofs.Laws.{all_none, zero-four, gathered-four}
use Rattle.octets.proofs.are_zero.Goals as goal

pub loop-i-init : goal.loop-i-init
loop-i-init c = (omega arith, sym (all_none _))

pub loop-i-preserved : goal.loop-i-preserved
loop-i-preserved c =
    let g = c.args in
    (omega arith, gathered-four g.s.now g.a g.n c.loop-i.i c.loop-i.any c.loop-i.invariant.1)

pub returns : goal.returns
returns c =
    let g = c.args in
    let e : c.loop-i.i ≡ g.n = omega arith in
    rw e at c.loop-i.invariant.1 ∙ zero-four g.s.now g.a g.n
