-- The bits of a number say its sign, and its digits. Assumes nothing.
use Prim.Native.Nat.{ℕ, suc, ◌-◌, ◌≤◌, ◌<◌}
use native.Mathlib.Omega.{arith}
use mathlib.Core.List.{◌∷◌}
use mathlib.Core.Path.{◌≡◌, refl}
use lib.IntN.{ℤ, pos, negsuc}
use mir.Syntax.{w32}
use mir.Val.{SFits}
use Rattle.text.specs.Text.{numeral}
use Rattle.sfdu_samples.specs.Bits.{bits_of}
use Rattle.rsr_samples_text.specs.Text.{minus, signed_numeral}

pub not_negative : (z : ℤ) (after : ℕ) → SFits w32 z → bits_of z < 2147483648 → numeral (bits_of z) after ≡ signed_numeral z after
unfolding bits_of signed_numeral
not_negative (pos n) after f h = refl
not_negative (negsuc n) after f h = absurd (omega (arith, f.sfits))

pub negative : (z : ℤ) (after : ℕ) → SFits w32 z → 2147483648 ≤ bits_of z → minus ∷ numeral (4294967296 - bits_of z) after ≡ signed_numeral z after
unfolding bits_of signed_numeral
negative (pos n) after f h = absurd (omega (arith, f.sfits))
negative (negsuc n) after f h = let e : 4294967296 - (4294967296 - suc n) ≡ suc n = omega (arith, f.sfits) in rw e
