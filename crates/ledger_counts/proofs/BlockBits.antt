-- The bits of a number, and of a number of eight tick bytes. Assumes nothing.
use Prim.Native.Nat.{ℕ, zero, suc, ◌+◌, ◌-◌, ◌*◌, ◌/◌, ◌%◌, ◌^◌, ◌<◌}
use native.Mathlib.Nat.{div-div-eq-div-mul}
use native.Mathlib.Omega.{arith}
use mathlib.Core.Bool.{Bool, true, false}
use mathlib.Core.List.{List}
use mathlib.Core.Path.{◌≡◌, refl}
use borrow.Author.Tests.{ltb-true, ltb-false}
use lib.Dec.{ltb}
use lib.ListN.{get_or}
use lib.Pow.{pow-add}
use Rattle.octets.specs.inner.Little.{little_at}
use Rattle.octets.proofs.Laws.{Bytes}
use Rattle.ledger_sheet.specs.Sheet.{ticks_at, byte_bits}
use Rattle.ledger_layout.specs.Ticks.{ticked_at}
use Rattle.ledger_layout.proofs.Bits.{below-eight}
use Rattle.ledger_counts.specs.inner.Blocks.{block_bits, bit_of, IsBlock}

-- ---- numbers of bytes, the lowest first

-- the bits of a number that has the byte x lowest
low_bit : (x y : ℕ) → x < 256 → (k : ℕ) → k < 8 → (x + 256 * y) / 2 ^ k % 2 ≡ x / 2 ^ k % 2
low_bit x y l =
    below-eight (λ k. (x + 256 * y) / 2 ^ k % 2 ≡ x / 2 ^ k % 2)
    (omega arith) (omega arith) (omega arith) (omega arith)
    (omega arith) (omega arith) (omega arith) (omega arith)

high_bit : (x y j : ℕ) → x < 256 → (x + 256 * y) / 2 ^ (8 + j) ≡ y / 2 ^ j
high_bit x y j l =
    let e : (x + 256 * y) / 256 ≡ y = omega arith in
    rw (pow-add 2 8 j, ← div-div-eq-div-mul, e)

-- bit i is bit i mod 8 of byte i div 8
little-bit : (s : List ℕ) → Bytes s → (n b i : ℕ) → i < byte_bits * n → bit_of (little_at s b n) i ≡ bit_of (get_or s (b + i / byte_bits) 0) (i % byte_bits)
unfolding little_at
little-bit s h zero b i l = absurd (omega arith)
little-bit s h (suc n) b i l = by (ltb i 8) refl (λ j m. little-bit s h n (b + 1) j m)
  where
    x : ℕ
    x = get_or s b 0

    y : ℕ
    y = little_at s (b + 1) n

    by : (f : Bool) → ltb i 8 ≡ f → ((j : ℕ) → j < 8 * n → bit_of y j ≡ bit_of (get_or s (b + 1 + j / 8) 0) (j % 8))
        → bit_of (x + 256 * y) i ≡ bit_of (get_or s (b + i / 8) 0) (i % 8)
    by true q rest =
        let low = ltb-true i 8 q in
        let byte : b + i / 8 ≡ b = omega arith in
        let bit : i % 8 ≡ i = omega arith in
        rw (low_bit x y (h b).fits i low, byte, bit)
    by false q rest =
        let high = ltb-false i 8 q in
        let up : 8 + (i - 8) ≡ i = omega arith in
        let byte : b + 1 + (i - 8) / 8 ≡ b + i / 8 = omega arith in
        let bit : (i - 8) % 8 ≡ i % 8 = omega arith in
        let here = rw up at (high_bit x y (i - 8) (h b).fits) in
        rw here (rw (byte, bit) at (rest (i - 8) (omega arith)))

-- so the eight tick bytes from 8 k on make a block of ticks
pub little-block : (s : List ℕ) (a k : ℕ) → Bytes s → IsBlock s a k (little_at s (a + ticks_at + 8 * k) 8)
unfolding ticked_at
little-block s a k h i l =
    let byte : a + ticks_at + 8 * k + i / byte_bits ≡ a + ticks_at + (block_bits * k + i) / byte_bits = omega arith in
    let bit : i % byte_bits ≡ (block_bits * k + i) % byte_bits = omega arith in
    rw (byte, bit) at (little-bit s h 8 (a + ticks_at + 8 * k) i (omega arith))
