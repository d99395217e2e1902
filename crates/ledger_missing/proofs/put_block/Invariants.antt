-- `ledger_missing::put_block` meets its contract. The invariant: the numbers at the bits that are left, stored from `at` on, give the result.
-- Assumes nothing.
use Prim.Native.Nat.{◌+◌, ◌^◌, ◌<◌}
use mathlib.Core.Path.{◌≡◌}
use lib.ListN.{length}
use lib.Seq.{sets}
use Rattle.ledger_counts.specs.inner.Blocks.{block_bits}
use Rattle.ledger_missing.proofs.Blocks.{numbers}
use Rattle.ledger_missing.proofs.put_block.Given as goal

abbrev pub invariant-loop-left : goal.invariant-loop-left
invariant-loop-left l =
    (l.left < 2 ^ block_bits) × (length l.list ≡ length l.initial.list) ×
    (l.at + length (numbers l.key l.first l.base l.left) ≡ l.from + length (numbers l.key l.first l.base l.block))
    × (sets l.list l.at (numbers l.key l.first l.base l.left) ≡ sets l.initial.list l.from (numbers l.key l.first l.base l.block))

abbrev pub decreases-loop-left : goal.decreases-loop-left
decreases-loop-left l = l.left
