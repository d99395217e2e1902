-- A word stored: its bytes swapped and then stored from the lowest are its bytes from the highest on. Assumes nothing.
use Rattle.std.proofs.Common.{◌≡◌, ℕ, suc, ◌+◌, ◌*◌, ◌/◌, ◌%◌, ◌<◌, List, [], ◌∷◌, set, arith}
use native.Mathlib.Nat.{div-div-eq-div-mul}
use lib.Seq.{sets}
use Rattle.octets.specs.Octets.{bytes_of}
use Rattle.sfdu_samples.specs.inner.Stored.{from_lowest}

pub four-stored : (l : List ℕ) (at a b c d : ℕ) → set (set (set (set l at a) (at + 1) b) (at + 2) c) (at + 3) d ≡ sets l at (a ∷ b ∷ c ∷ d ∷ [])
four-stored l at a b c d =
    let second : at + 1 ≡ suc at = omega arith in
    let third : at + 2 ≡ suc (suc at) = omega arith in
    let fourth : at + 3 ≡ suc (suc (suc at)) = omega arith in
    rw (second, third, fourth)

-- The bytes that a number of four is made of.
record Parts (n a b c d : ℕ) : Type 0 where
  first : n % 256 ≡ d
  second : n / 256 % 256 ≡ c
  third : n / 65536 % 256 ≡ b
  fourth : n / 16777216 ≡ a

parts : (a b c d : ℕ) → a < 256 → b < 256 → c < 256 → d < 256 → Parts (a * 16777216 + b * 65536 + c * 256 + d) a b c d
parts a b c d i j k l = record { first = omega arith; second = omega arith; third = omega arith; fourth = omega arith }

pub swapped-bytes : (w : ℕ) → w < 4294967296
    → from_lowest (w % 256 * 16777216 + w / 256 % 256 * 65536 + w / 65536 % 256 * 256 + w / 16777216) ≡ bytes_of 4 w
unfolding bytes_of
swapped-bytes w l =
    let p = parts (w % 256) (w / 256 % 256) (w / 65536 % 256) (w / 16777216) (omega arith) (omega arith) (omega arith) (omega arith) in
    let third : w / 256 / 256 ≡ w / 65536 = div-div-eq-div-mul w 256 256 in
    let fourth : w / 256 / 256 / 256 % 256 ≡ w / 16777216 = omega arith in
    rw (p.first, p.second, p.third, p.fourth, fourth, third)
