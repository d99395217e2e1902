-- `ledger_counts::ticked_beyond` meets its contract. The invariant: the count is that of the positions of the first k blocks. Assumes nothing.
use Prim.Native.Nat.{◌*◌, ◌≤◌, ◌-◌}
use mathlib.Core.Path.{◌≡◌}
use Rattle.octets.specs.Lists.{table}
use Rattle.ledger_model.specs.Positions.{size}
use Rattle.ledger_counts.specs.inner.Blocks.{block_bits, block_count}
use Rattle.ledger_counts.proofs.Beyond.{beyond}
use Rattle.ledger_counts.proofs.ticked_beyond.Given as goal

abbrev pub invariant-loop-k : goal.invariant-loop-k
invariant-loop-k l = (l.k ≤ block_count) × (l.count ≤ block_bits * l.k) × (l.count ≡ size (table (block_bits * l.k) (beyond l.s l.a l.b)))

abbrev pub decreases-loop-k : goal.decreases-loop-k
decreases-loop-k l = block_count - l.k
