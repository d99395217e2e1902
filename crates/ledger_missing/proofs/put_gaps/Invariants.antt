-- `ledger_missing::put_gaps` meets its contract. The invariant: the numbers from block k on, stored from `at` on, give the result. Assumes nothing.
use Prim.Native.Nat.{◌+◌, ◌-◌, ◌≤◌}
use mathlib.Core.Path.{◌≡◌}
use lib.ListN.{length}
use lib.Seq.{sets}
use Rattle.ledger_counts.specs.inner.Blocks.{block_count}
use Rattle.ledger_missing.specs.inner.Gaps.{gaps_in}
use Rattle.ledger_missing.proofs.Blocks.{onward}
use Rattle.ledger_missing.proofs.put_gaps.Given as goal

abbrev pub invariant-loop-k : goal.invariant-loop-k
invariant-loop-k l =
    (l.k ≤ block_count) × (length l.list ≡ length l.initial.list) × (l.at + length (onward l.s l.a l.end l.k) ≤ length l.list)
    × (sets l.list l.at (onward l.s l.a l.end l.k) ≡ sets l.initial.list 0 (gaps_in l.s l.a 0 l.end))

abbrev pub decreases-loop-k : goal.decreases-loop-k
decreases-loop-k l = block_count - l.k
