-- The positions that are ticked in one row and not in another, counted by blocks. Assumes nothing.
use Prim.Native.Nat.{ℕ, zero, suc, ◌+◌, ◌-◌, ◌*◌, ◌/◌, ◌%◌, ◌^◌, ◌<◌, min}
use native.Mathlib.Nat.{mod-lt, mul-add-mod_self_right, zero-lt-suc}
use native.Mathlib.Omega.{arith}
use mathlib.Core.Bool.{Bool, not, ◌&&◌}
use mathlib.Core.List.{List, ◌∷◌}
use mathlib.Core.Path.{◌≡◌, refl, sym, ap, ◌∙◌}
use lib.Bits.{bit_and, and_step, and_shr, and_le_l}
use lib.Count.{ones}
use lib.Dec.{eqb}
use Rattle.octets.specs.Lists.{table}
use Rattle.ledger_model.specs.Positions.{minus, size}
use Rattle.ledger_layout.specs.Ticks.{ticked_at, ticks_in}
use Rattle.ledger_counts.specs.inner.Blocks.{block_bits, bit_of, IsBlock}
use Rattle.ledger_counts.proofs.BlockCounts.{not-bit, count-more}

-- A bit of two blocks taken together.
pub and-bit : (x y i : ℕ) → bit_of (bit_and x y) i ≡ (bit_of x i && bit_of y i)
and-bit x y i = rw (and_shr x y i) (low (x / 2 ^ i) (y / 2 ^ i))
  where
    both-odd : (p q : ℕ) → p < 2 → q < 2 → eqb (min p q % 2) 1 ≡ (eqb p 1 && eqb q 1)
    both-odd zero zero l h = refl
    both-odd zero (suc zero) l h = refl
    both-odd (suc zero) zero l h = refl
    both-odd (suc zero) (suc zero) l h = refl
    both-odd zero (suc (suc q)) l h = absurd (omega arith)
    both-odd (suc zero) (suc (suc q)) l h = absurd (omega arith)
    both-odd (suc (suc p)) q l h = absurd (omega arith)

    low : (u v : ℕ) → eqb (bit_and u v % 2) 1 ≡ (eqb (u % 2) 1 && eqb (v % 2) 1)
    low u v =
        rw (and_step u v, mul-add-mod_self_right (bit_and (u / 2) (v / 2)) 2 (min (u % 2) (v % 2)))
        (both-odd (u % 2) (v % 2) (mod-lt u (zero-lt-suc 1)) (mod-lt v (zero-lt-suc 1)))

-- The first list's flags without the second's.
pub minus-table : (n : ℕ) (p q : ℕ → Bool) → minus (table n p) (table n q) ≡ table n (λ i. p i && not (q i))
unfolding minus table
minus-table zero p q = refl
minus-table (suc n) p q = ap (λ l. (p 0 && not (q 0)) ∷ l) (minus-table n (λ i. p (suc i)) (λ i. q (suc i)))

-- Ticked in the row at offset a, and not in the one at offset b.
abbrev pub beyond : List ℕ → (a b i : ℕ) → Bool
beyond s a b i = ticked_at s a i && not (ticked_at s b i)

module _ (s : List ℕ) (a b k x y : ℕ) (in-x : IsBlock s a k x) (in-y : IsBlock s b k y) (fits-x : x < 2 ^ block_bits) (fits-y : y < 2 ^ block_bits) where
  abbrev pub both : ℕ
  both = bit_and x (2 ^ block_bits - 1 - y)

  pub beyond-fits : both < 2 ^ block_bits
  beyond-fits = omega (arith, and_le_l x (2 ^ block_bits - 1 - y))

  pub beyond-count : size (table (block_bits * (k + 1)) (beyond s a b)) ≡ size (table (block_bits * k) (beyond s a b)) + ones both
  beyond-count =
      count-more (beyond s a b) k both
      (λ i l. and-bit x (2 ^ block_bits - 1 - y) i ∙ rw (in-x i l, not-bit block_bits y i fits-y l, in-y i l)) beyond-fits

pub beyond-all : (s : List ℕ) (a b : ℕ) → size (table 1024 (beyond s a b)) ≡ size (minus (ticks_in s a) (ticks_in s b))
unfolding ticks_in
beyond-all s a b = ap size (sym (minus-table 1024 (ticked_at s a) (ticked_at s b)))
