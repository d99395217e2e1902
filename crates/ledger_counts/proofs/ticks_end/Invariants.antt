-- `ledger_counts::ticks_end` meets its contract. The invariant: no position of a block from k on is ticked. Assumes nothing.
use Prim.Native.Nat.{◌*◌, ◌≤◌}
use mathlib.Core.Path.{◌≡◌}
use Rattle.ledger_model.specs.Positions.{row_length}
use Rattle.ledger_layout.specs.Ticks.{ticked_at}
use Rattle.ledger_counts.specs.inner.Counts.{past_highest}
use Rattle.ledger_counts.specs.inner.Blocks.{block_bits, block_count}
use Rattle.ledger_counts.proofs.ticks_end.Given as goal

abbrev pub invariant-loop-k : goal.invariant-loop-k
invariant-loop-k l = (l.k ≤ block_count) × (past_highest row_length (ticked_at l.s l.a) ≡ past_highest (block_bits * l.k) (ticked_at l.s l.a))
