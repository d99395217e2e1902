-- `ledger_counts::ticks_end` meets its contract. The invariant: no position of a block from k on is ticked. Assumes nothing.
use Prim.Native.Nat.{◌+◌, ◌-◌}
use mathlib.Core.Path.{◌≡◌, refl, sym, ◌∙◌}
use native.Mathlib.Omega.{arith}
use lib.Count.{leading_le}
use Rattle.ledger_counts.proofs.Highest.{past-none}
use Rattle.ledger_counts.specs.inner.Blocks.{block_bits}
use Rattle.ledger_counts.proofs.BlockCounts.{block_none, block-end}
use Rattle.ledger_counts.proofs.ticks_end.Goals as goal

pub loop-k-init : goal.loop-k-init
loop-k-init c = (omega arith, refl)

pub overflow_cast-result : goal.overflow_cast-result
overflow_cast-result c = let few = leading_le block_bits c.tick_block-block.result in omega arith

pub overflow_sub-result : goal.overflow_sub-result
overflow_sub-result c = let few = leading_le block_bits c.tick_block-block.result in omega arith

pub returns-then-block-ne0 : goal.returns-then-block-ne0
returns-then-block-ne0 c =
    let g = c.args in
    let w = c.tick_block-block.result in
    let up : c.loop-k.k - 1 + 1 ≡ c.loop-k.k = omega arith in
    let some = c.if-block-ne0.true in
    rw up (sym (c.loop-k.invariant.1 ∙ rw up at (block-end g.s.now g.a (c.loop-k.k - 1) w c.tick_block-block.ensures (omega arith) (omega arith))))

pub loop-k-preserved : goal.loop-k-preserved
loop-k-preserved c =
    let g = c.args in
    let w = c.tick_block-block.result in
    let up : c.loop-k.k - 1 + 1 ≡ c.loop-k.k = omega arith in (
      omega arith,
      c.loop-k.invariant.1
          ∙ rw up at (block_none g.s.now g.a (c.loop-k.k - 1) w c.tick_block-block.ensures (omega arith) c.if-block-ne0.false),
    )

pub returns : goal.returns
returns c =
    let e : c.loop-k.k ≡ 0 = omega arith in
    sym (rw e at c.loop-k.invariant.1 ∙ past-none _)
