-- `is_ticked` meets its contract. Assumes nothing.
use Prim.Native.Nat.{◌%◌}
use native.Mathlib.Nat.{one-le-pow}
use lib.Dec.{lit<}
use Rattle.ledger_sheet.specs.Sheet.{byte_bits}
use Rattle.ledger_layout.specs.Ticks.{ticked_at}
use Rattle.ledger_layout.proofs.lookup.is_ticked.Goals as goal

pub nonzero_div-result-2 : goal.nonzero_div-result-2
nonzero_div-result-2 c = rw c.tick_bit.ensures (one-le-pow (c.args.i % byte_bits) 2 (lit< tt))

pub returns : goal.returns
unfolding ticked_at
returns c = rw c.tick_bit.ensures
