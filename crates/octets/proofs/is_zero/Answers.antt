-- `octets::is_zero` meets its contract. Assumes nothing.
use native.Mathlib.Omega.{arith}
use mathlib.Core.Path.{◌≡◌, sym, ap}
use lib.Dec.{eqb}
use Rattle.octets.specs.Octets.{zero_at}
use Rattle.octets.proofs.Laws.{all_none, gathered}
use Rattle.octets.proofs.Parts.{length-lent, lent_at}
use Rattle.octets.proofs.is_zero.Goals as goal

pub loop-b-init : goal.loop-b-init
unfolding zero_at
loop-b-init c = sym (all_none _)

pub loop-b-preserved : goal.loop-b-preserved
unfolding zero_at
loop-b-preserved c =
    let g = c.args in
    let read = lent_at g.s.now g.a g.n c.loop-b.b-index c.requires c.loop-b-test.true in
    gathered _ c.loop-b.b-index c.loop-b.any _ c.loop-b.invariant (ap (λ x. eqb x 0) read)

pub returns : goal.returns
returns c =
    let g = c.args in
    let whole : c.loop-b.b-index ≡ g.n = omega (arith, length-lent g.s.now g.a g.n c.requires, c.loop-b-test.false) in
    rw (← whole) c.loop-b.invariant
