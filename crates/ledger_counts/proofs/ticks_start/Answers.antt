-- `ledger_counts::ticks_start` meets its contract. Assumes nothing.
use native.Mathlib.Omega.{arith}
use borrow.Author.Tests.{not-false}
use Rattle.ledger_model.specs.Positions.{row_length}
use Rattle.ledger_counts.specs.inner.Blocks.{block_bits, last_block_at}
use Rattle.ledger_counts.proofs.Starts.{some_one, block-ticked, ticked-join, starts-at}
use Rattle.ledger_counts.proofs.ticks_start.Goals as goal

pub overflow_cast-start : goal.overflow_cast-start
overflow_cast-start c = omega (arith, some_one block_bits c.tick_block-block.result (omega arith) c.if-block-eq0.false)

pub overflow_shr-block : goal.overflow_shr-block
overflow_shr-block c = omega (arith, some_one block_bits c.tick_block-block.result (omega arith) c.if-block-eq0.false)

pub overflow_cast-start-2 : goal.overflow_cast-start-2
overflow_cast-start-2 c = omega (arith, some_one block_bits c.tick_block-block.result (omega arith) c.if-block-eq0.false)

pub overflow_shr-start : goal.overflow_shr-start
overflow_shr-start c = omega (arith, some_one block_bits c.tick_block-block.result (omega arith) c.if-block-eq0.false)

pub overflow_cast-result : goal.overflow_cast-result
overflow_cast-result c = omega (arith, some_one block_bits c.tick_block-block.result (omega arith) c.if-block-eq0.false)

pub returns : goal.returns
returns c =
    let g = c.args in
    let w = c.tick_block-block.result in
    let middle = c.is_full_between.ensures (not-false _ c.if-not-is_full_between.false-raw) in
    let ended = block-ticked g.s.now g.a 15 c.tick_block.result c.tick_block.ensures c.if-tick_block.false in
    let behind = ticked-join g.s.now g.a block_bits last_block_at row_length middle ended in
    let few = some_one block_bits w (omega arith) c.if-block-eq0.false in
    (omega (arith, few), starts-at g.s.now g.a w c.tick_block-block.ensures (omega (arith, few)) c.if-block-start.false behind)
