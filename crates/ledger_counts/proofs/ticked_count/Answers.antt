-- `ledger_counts::ticked_count` meets its contract. The invariant: the count is that of the positions of the first b groups.
-- Assumes nothing.
use Prim.Native.Nat.{◌+◌, ◌*◌}
use mathlib.Core.Path.{◌≡◌, sym}
use native.Mathlib.Omega.{arith}
use Rattle.ledger_model.specs.Positions.{row_length}
use Rattle.ledger_layout.specs.Ticks.{ticks_in}
use Rattle.ledger_counts.specs.inner.Blocks.{block_bits, group_blocks}
use Rattle.ledger_counts.proofs.Missing.{size_none}
use Rattle.ledger_counts.proofs.BlockCounts.{AllFit, group-few, group-count}
use Rattle.ledger_counts.proofs.ticked_count.Goals as goal

pub loop-b-init : goal.loop-b-init
loop-b-init c = (omega arith, omega arith, sym (size_none _))

pub group_ones-count-requires : goal.group_ones-count-requires
group_ones-count-requires c = tt

pub overflow_add-count : goal.overflow_add-count
overflow_add-count c =
    let few = group-few block_bits c.tick_block-first.result c.tick_block-second.result c.tick_block-third.result c.tick_block-fourth.result
    (omega arith, omega arith, omega arith, omega arith) in
    omega (arith, c.group_ones-count.ensures)

pub loop-b-preserved : goal.loop-b-preserved
loop-b-preserved c =
    let g = c.args in
    let b = c.loop-b.b in
    let x = c.tick_block-first.result in
    let y = c.tick_block-second.result in
    let z = c.tick_block-third.result in
    let w = c.tick_block-fourth.result in
    let fits : AllFit block_bits x y z w = (omega arith, omega arith, omega arith, omega arith) in
    let few = group-few block_bits x y z w fits in
    let next : group_blocks * (b + 1) ≡ group_blocks * b + group_blocks = omega arith in
    let more =
    group-count g.s.now g.a (group_blocks * b) x y z w fits c.tick_block-first.ensures c.tick_block-second.ensures c.tick_block-third.ensures
    c.tick_block-fourth.ensures in
    (omega arith, omega (arith, c.group_ones-count.ensures), rw next (omega (arith, c.group_ones-count.ensures)))

pub returns : goal.returns
unfolding ticks_in
returns c = let e : block_bits * (group_blocks * c.loop-b.b) ≡ row_length = omega arith in rw (← e) c.loop-b.invariant.2
