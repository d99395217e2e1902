-- `octets::is_zero` meets its contract. The invariant: `any` is zero exactly if the bytes gone through are. Assumes nothing.
use mathlib.Core.Path.{◌≡◌}
use lib.Dec.{eqb}
use Rattle.octets.specs.Octets.{zero_at}
use Rattle.octets.proofs.is_zero.Given as goal

abbrev pub invariant-loop-b : goal.invariant-loop-b
invariant-loop-b l = eqb l.any 0 ≡ zero_at l.s l.a l.b-index
