-- `ledger_counts::ticked_count` meets its contract. The invariant: the count is that of the positions of the first b groups.
-- Assumes nothing.
use Prim.Native.Nat.{◌*◌, ◌≤◌, ◌-◌}
use mathlib.Core.Path.{◌≡◌}
use Rattle.ledger_model.specs.Positions.{size}
use Rattle.ledger_layout.specs.Ticks.{ticked_at}
use Rattle.octets.specs.Lists.{table}
use Rattle.ledger_counts.specs.inner.Blocks.{block_bits, group_blocks, group_count}
use Rattle.ledger_counts.proofs.ticked_count.Given as goal

abbrev pub invariant-loop-b : goal.invariant-loop-b
invariant-loop-b l = (l.b ≤ group_count) × (l.count ≤ block_bits * (group_blocks * l.b)) ×
    (l.count ≡ size (table (block_bits * (group_blocks * l.b)) (ticked_at l.s l.a)))

abbrev pub decreases-loop-b : goal.decreases-loop-b
decreases-loop-b l = group_count - l.b
