-- Positions and numbers of each kind of stream: each determines the other, for any modulus. Assumes nothing.
use Rattle.std.proofs.Common.{◌≡◌, ℕ, ◌+◌, ◌-◌, ◌%◌, ◌^◌, ◌<◌, ◌≤◌, false, refl, mod-lt, mod-eq_of_lt, arith, le-ltb, lt-ltb}
use native.Mathlib.Nat.{mod-add-mod, add-mod-mod, add-mod_right}
use Rattle.keys.specs.Key.{rsr_start}
use Rattle.keys.specs.Numbers.{modulus, is_number}
use Rattle.keys.proofs.Numbers.{telemetry-modulus, rsr-modulus}
use Rattle.ledger_model.specs.Positions.{row_length, position, position_number, in_row}

-- ---- the two kinds

-- What the wrapping difference r of n and first promises fixes the position, and their wrapping sum the number.
module _ (key first n r : ℕ) where
  pub telemetry-position : first < 2 ^ 32 → n < 2 ^ 32 → r < 2 ^ 32 → key < rsr_start → (r + first) % 2 ^ 32 ≡ n → r ≡ position key first n
  unfolding position
  telemetry-position f g h k e = rw (telemetry-modulus key k, lt-ltb n (2 ^ 32) g) (omega arith)

  pub rsr-position : rsr_start ≤ key → n < 2 ^ 16 → (r + first) % 2 ^ 32 ≡ n → r % 2 ^ 16 ≡ position key first n
  unfolding position
  rsr-position k l e = rw (rsr-modulus key k, lt-ltb n (2 ^ 16) l) (omega arith)

  pub rsr-outside : rsr_start ≤ key → 2 ^ 16 ≤ n → row_length ≡ position key first n
  unfolding position
  rsr-outside k l = rw (rsr-modulus key k, le-ltb n (2 ^ 16) l)

  pub telemetry-number : key < rsr_start → r ≡ (first + n) % 2 ^ 32 → r ≡ position_number key first n
  unfolding position_number
  telemetry-number k e = rw (telemetry-modulus key k) e

  pub rsr-number : rsr_start ≤ key → r ≡ (first + n) % 2 ^ 32 → r % 2 ^ 16 ≡ position_number key first n
  unfolding position_number
  rsr-number k e = rw (rsr-modulus key k) (omega arith)

-- In an RSR row from 65,530, number 2 has position 8 (document 02, Req 03): the number after 65,535 is 0.
pub example-03 : (position rsr_start 65530 2 ≡ 8) × (position_number rsr_start 65530 6 ≡ 0)
unfolding position position_number modulus
example-03 = (refl, refl)

-- ---- numbers and positions

-- A number that no record of the stream has is outside the row.
pub outside : (key first n : ℕ) → is_number key n ≡ false → in_row (position key first n) ≡ false
unfolding position
outside key first n e = rw e

module _ (key first i : ℕ) (f : first < modulus key) (g : i < modulus key) where
  -- Position i holds the number whose position is i,
  pub position-number : position key first (position_number key first i) ≡ i
  unfolding position position_number
  position-number =
      let m = modulus key in
      let sum : first + i + (m - first) ≡ i + m = omega arith in
      rw (lt-ltb _ m (mod-lt (first + i) (omega arith)), mod-eq_of_lt f, mod-add-mod (first + i) m (m - first), sum, add-mod_right) (mod-eq_of_lt g)

  -- and a number stands at its position.
  pub number-position : position_number key first (position key first i) ≡ i
  unfolding position position_number
  number-position =
      let m = modulus key in
      let sum : first + (i + (m - first)) ≡ i + m = omega arith in
      rw (lt-ltb i m g, mod-eq_of_lt f, add-mod-mod, sum, add-mod_right) (mod-eq_of_lt g)
