-- `ledger_counts::lowest_unticked` meets its contract. The invariant: the positions of the first k blocks are ticked. Assumes nothing.
use Prim.Native.Nat.{◌*◌, ◌-◌, ◌≤◌}
use Rattle.ledger_counts.specs.inner.Blocks.{block_bits, block_count, TickedFrom}
use Rattle.ledger_counts.proofs.lowest_unticked.Given as goal

abbrev pub invariant-loop-k : goal.invariant-loop-k
invariant-loop-k l = (l.k ≤ block_count) × TickedFrom l.s l.a 0 (block_bits * l.k)

abbrev pub decreases-loop-k : goal.decreases-loop-k
decreases-loop-k l = block_count - l.k
