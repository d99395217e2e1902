-- `octets::numbers::read_u16` meets its contract. Assumes nothing.
use native.Mathlib.Nat.{add-zero}
use native.Mathlib.Omega.{arith}
use Rattle.octets.specs.Octets.{number_at}
use Rattle.octets.proofs.numbers.read_u16.Goals as goal

pub returns : goal.returns
unfolding number_at
returns c = simp add-zero (omega (arith, c.from_be_bytes.ensures))
