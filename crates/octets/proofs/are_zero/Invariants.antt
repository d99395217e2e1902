-- `octets::are_zero` meets its contract. The invariant: `any` is zero exactly if the first i bytes of each range are.
-- Assumes nothing.
use Prim.Native.Nat.{◌≤◌, ◌-◌}
use mathlib.Core.Path.{◌≡◌}
use lib.Dec.{eqb}
use Rattle.octets.specs.Octets.{all}
use Rattle.octets.proofs.Laws.{four_zero}
use Rattle.octets.proofs.are_zero.Given as goal

abbrev pub invariant-loop-i : goal.invariant-loop-i
invariant-loop-i l = (l.i ≤ l.n) × (eqb l.any 0 ≡ all l.i (four_zero l.s l.a l.n))

abbrev pub decreases-loop-i : goal.decreases-loop-i
decreases-loop-i l = l.n - l.i
