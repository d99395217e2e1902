-- `tick_bit` meets its contract. Assumes nothing.
use native.Mathlib.Nat.{one-mul, mod-eq_of_lt}
use Rattle.ledger_layout.proofs.Bits.{bit-fits}
use Rattle.ledger_layout.proofs.lookup.tick_bit.Goals as goal

pub returns : goal.returns
returns c = rw one-mul (mod-eq_of_lt (bit-fits _ c.requires))
