-- `ledger_counts::unticked_in` meets its contract. Assumes nothing.
use Prim.Native.Nat.{◌-◌, ◌^◌, ◌<◌}
use native.Mathlib.Omega.{arith}
use borrow.Author.Tests.{not-true}
use Rattle.ledger_counts.specs.inner.Blocks.{block_bits}
use Rattle.ledger_counts.proofs.BlockCounts.{block-ticked-below, block-ticked-all, block-lowest}
use Rattle.ledger_counts.proofs.Starts.{some_one}
use Rattle.ledger_counts.proofs.unticked_in.Goals as goal

pub returns-then-unticked-eq0 : goal.returns-then-unticked-eq0
returns-then-unticked-eq0 c =
    let g = c.args in
    block-ticked-all g.s.now g.a g.k c.tick_block-unticked.result c.tick_block-unticked.ensures (omega arith) c.if-unticked-eq0.true

pub overflow_cast-result : goal.overflow_cast-result
overflow_cast-result c =
    omega (arith, some_one block_bits (2 ^ block_bits - 1 - c.tick_block-unticked.result) (omega arith) c.if-unticked-eq0.false)

pub overflow_add-result : goal.overflow_add-result
overflow_add-result c =
    omega (arith, some_one block_bits (2 ^ block_bits - 1 - c.tick_block-unticked.result) (omega arith) c.if-unticked-eq0.false)

pub returns : goal.returns
returns c =
    let g = c.args in
    let w = c.tick_block-unticked.result in
    let block = c.tick_block-unticked.ensures in
    let fits : w < 2 ^ block_bits = omega arith in
    let some = c.if-unticked-eq0.false in
    let few = some_one block_bits (2 ^ block_bits - 1 - w) (omega arith) some in
    record {
      start = omega arith;
      within = omega (arith, few);
      ticked = block-ticked-below g.s.now g.a g.k w block fits;
      unticked = not-true _ (block-lowest g.s.now g.a g.k w block fits (omega arith));
    }
