-- `octets::numbers::read_bytes` meets its contract. The invariant: `v` is the number in the bytes gone through. Assumes nothing.
use mathlib.Core.Path.{◌≡◌}
use Rattle.octets.specs.Octets.{number_at}
use Rattle.octets.proofs.numbers.read_bytes.Given as goal

abbrev pub invariant-loop-b : goal.invariant-loop-b
invariant-loop-b l = l.v ≡ number_at l.s l.a l.b-index
