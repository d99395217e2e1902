-- `ledger_counts::ticked_beyond` meets its contract. The invariant: the count is that of the positions of the first k blocks. Assumes nothing.
use Prim.Native.Nat.{◌*◌}
use mathlib.Core.Path.{◌≡◌, sym, ◌∙◌}
use native.Mathlib.Omega.{arith}
use lib.Count.{ones-le}
use Rattle.ledger_model.specs.Positions.{row_length}
use Rattle.ledger_counts.specs.inner.Blocks.{block_bits}
use Rattle.ledger_counts.proofs.Missing.{size_none}
use Rattle.ledger_counts.proofs.Beyond.{beyond-fits, beyond-count, beyond-all}
use Rattle.ledger_counts.proofs.ticked_beyond.Goals as goal

pub loop-k-init : goal.loop-k-init
loop-k-init c = (omega arith, omega arith, sym (size_none _))

pub overflow_add-count : goal.overflow_add-count
overflow_add-count c =
    let g = c.args in
    let k = c.loop-k.k in
    let x = c.tick_block.result in
    let y = c.tick_block-in-loop-k.result in
    let fits = beyond-fits g.s.now g.a g.b k x y c.tick_block.ensures c.tick_block-in-loop-k.ensures (omega arith) (omega arith) in
    omega (arith, ones-le block_bits _ fits)

pub loop-k-preserved : goal.loop-k-preserved
loop-k-preserved c =
    let g = c.args in
    let k = c.loop-k.k in
    let x = c.tick_block.result in
    let y = c.tick_block-in-loop-k.result in
    let fits = beyond-fits g.s.now g.a g.b k x y c.tick_block.ensures c.tick_block-in-loop-k.ensures (omega arith) (omega arith) in
    let more = beyond-count g.s.now g.a g.b k x y c.tick_block.ensures c.tick_block-in-loop-k.ensures (omega arith) (omega arith) in
    (omega arith, omega (arith, ones-le block_bits _ fits), omega arith)

pub returns : goal.returns
returns c =
    let g = c.args in
    let e : block_bits * c.loop-k.k ≡ row_length = omega arith in
    rw e at c.loop-k.invariant.2 ∙ beyond-all g.s.now g.a g.b
