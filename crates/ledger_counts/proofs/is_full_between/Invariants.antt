-- `ledger_counts::is_full_between` meets its contract. The invariant: if `all` is full, so are the blocks before k.
-- Assumes nothing.
use Prim.Native.Nat.{◌*◌, ◌-◌, ◌^◌, ◌≤◌, ◌<◌}
use mathlib.Core.Path.{◌≡◌}
use Rattle.ledger_counts.specs.inner.Blocks.{block_bits, TickedFrom}
use Rattle.ledger_counts.proofs.is_full_between.Given as goal

abbrev pub invariant-loop-k : goal.invariant-loop-k
invariant-loop-k l = (1 ≤ l.k) × (l.k ≤ 15) × (l.all < 2 ^ block_bits) × (l.all ≡ 2 ^ block_bits - 1 → TickedFrom l.s l.a block_bits (block_bits * l.k))

abbrev pub decreases-loop-k : goal.decreases-loop-k
decreases-loop-k l = 15 - l.k
