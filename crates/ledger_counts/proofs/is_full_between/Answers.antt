-- `ledger_counts::is_full_between` meets its contract. The invariant: if `all` is full, so are the blocks before k.
-- Assumes nothing.
use Prim.Native.Nat.{◌+◌, ◌*◌, ◌-◌, ◌^◌}
use native.Mathlib.Omega.{arith}
use borrow.Author.Tests.{eqb-true}
use lib.Bits.{and_le_l}
use Rattle.ledger_counts.specs.inner.Blocks.{block_bits}
use Rattle.ledger_counts.proofs.Starts.{and-full, block-ticked, ticked-join}
use Rattle.ledger_counts.proofs.is_full_between.Goals as goal

pub loop-k-init : goal.loop-k-init
loop-k-init c = (omega arith, omega arith, omega arith, λ e i h l. absurd (omega arith))

pub loop-k-preserved : goal.loop-k-preserved
loop-k-preserved c =
    let g = c.args in
    let w = c.tick_block-all.result in
    let more = ticked-join g.s.now g.a block_bits (block_bits * c.loop-k.k) (block_bits * (c.loop-k.k + 1)) in
    let block = block-ticked g.s.now g.a c.loop-k.k w c.tick_block-all.ensures in
    let both = and-full block_bits c.loop-k.all w (omega arith) (omega arith) in
    (omega arith, omega arith, omega (arith, and_le_l c.loop-k.all w), λ e. more (c.loop-k.invariant.3 (both e).0) (block (both e).1))

pub returns : goal.returns
returns c e k h l = c.loop-k.invariant.3 (eqb-true c.loop-k.all (2 ^ block_bits - 1) e) k h (omega arith)
