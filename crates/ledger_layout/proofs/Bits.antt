-- Bits of a byte. Assumes nothing.
use Prim.Native.Nat.{ℕ, zero, suc, ◌+◌, ◌/◌, ◌%◌, ◌^◌, ◌≤◌, ◌<◌}
use native.Mathlib.Omega.{arith}
use mathlib.Core.Path.{◌≡◌}
use lib.Dec.{lit<}

-- what holds of each number below 8
pub below-eight : (P : ℕ → Type 0) → P 0 → P 1 → P 2 → P 3 → P 4 → P 5 → P 6 → P 7 → (k : ℕ) → k < 8 → P k
below-eight P a b c d e f g h zero l = a
below-eight P a b c d e f g h (suc zero) l = b
below-eight P a b c d e f g h (suc (suc zero)) l = c
below-eight P a b c d e f g h (suc (suc (suc zero))) l = d
below-eight P a b c d e f g h (suc (suc (suc (suc zero)))) l = e
below-eight P a b c d e f g h (suc (suc (suc (suc (suc zero))))) l = f
below-eight P a b c d e f g h (suc (suc (suc (suc (suc (suc zero)))))) l = g
below-eight P a b c d e f g h (suc (suc (suc (suc (suc (suc (suc zero))))))) l = h
below-eight P a b c d e f g h (suc (suc (suc (suc (suc (suc (suc (suc k)))))))) l = absurd (omega arith)

-- a power of two below the eighth fits a byte
pub bit-fits : (k : ℕ) → k < 8 → 2 ^ k < 256
bit-fits = below-eight (λ k. 2 ^ k < 256) (lit< tt) (lit< tt) (lit< tt) (lit< tt) (lit< tt) (lit< tt) (lit< tt) (lit< tt)

-- a bit that is clear can be added to its byte
pub bit-room : (b : ℕ) → b < 256 → (k : ℕ) → k < 8 → (b / 2 ^ k % 2 ≡ 1 → ⊥) → b + 2 ^ k < 256
bit-room b l =
    below-eight (λ k. (b / 2 ^ k % 2 ≡ 1 → ⊥) → b + 2 ^ k < 256)
    (λ e. omega arith) (λ e. omega arith) (λ e. omega arith) (λ e. omega arith)
    (λ e. omega arith) (λ e. omega arith) (λ e. omega arith) (λ e. omega arith)

-- a bit that is set can be taken from its byte
pub bit-under : (b : ℕ) → (k : ℕ) → k < 8 → b / 2 ^ k % 2 ≡ 1 → 2 ^ k ≤ b
bit-under b =
    below-eight (λ k. b / 2 ^ k % 2 ≡ 1 → 2 ^ k ≤ b)
    (λ e. omega arith) (λ e. omega arith) (λ e. omega arith) (λ e. omega arith)
    (λ e. omega arith) (λ e. omega arith) (λ e. omega arith) (λ e. omega arith)
