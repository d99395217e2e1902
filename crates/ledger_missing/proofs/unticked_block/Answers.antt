-- `ledger_missing::unticked_block` meets its contract. Assumes nothing.
use Prim.Native.Nat.{ℕ, ◌-◌, ◌*◌, ◌%◌, ◌^◌, ◌<◌, min}
use native.Mathlib.Nat.{mod-lt, mod-eq_of_lt, one-mul}
use native.Mathlib.Omega.{arith}
use mathlib.Core.Path.{◌≡◌, refl}
use lib.Pow.{pow_pos, pow-lt}
use Rattle.ledger_counts.specs.inner.Blocks.{block_bits}
use Rattle.ledger_missing.proofs.Gaps.{bit_below, block-gaps}
use Rattle.ledger_missing.proofs.unticked_block.Goals as goal

-- The mask's length is a power of two.
power : (left : ℕ) → left < block_bits → 1 * 2 ^ left % 2 ^ block_bits ≡ 2 ^ left
power left l = rw one-mul (mod-eq_of_lt (pow-lt l))

pub nonzero_rem-result : goal.nonzero_rem-result
nonzero_rem-result c = rw (power _ c.if-left-lt-BLOCK_BITS.true) (pow_pos _)

pub returns-then-left-lt-BLOCK_BITS : goal.returns-then-left-lt-BLOCK_BITS
returns-then-left-lt-BLOCK_BITS c =
    let g = c.args in
    let left = g.end - block_bits * g.k in
    let w = c.tick_block-unticked.result in
    let few : left < block_bits = c.if-left-lt-BLOCK_BITS.true in
    let least : min block_bits left ≡ left = omega arith in
    let unticked = 2 ^ block_bits - 1 - w in
    rw (power left few, least)
    (block-gaps g.s.now g.a g.k left w (unticked % 2 ^ left) c.tick_block-unticked.ensures (omega arith) (omega arith)
    (mod-lt unticked (pow_pos left)) (λ j q. bit_below unticked left j q))

pub returns : goal.returns
returns c =
    let g = c.args in
    let left = g.end - block_bits * g.k in
    let w = c.tick_block-unticked.result in
    let many = c.if-left-lt-BLOCK_BITS.false in
    let least : min block_bits left ≡ block_bits = omega arith in
    rw least
    (block-gaps g.s.now g.a g.k block_bits w (2 ^ block_bits - 1 - w) c.tick_block-unticked.ensures (omega arith) (omega arith) (omega arith)
    (λ j q. refl))
