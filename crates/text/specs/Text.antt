-- Text in a list of bytes, and numbers in decimal. Bytes are ASCII. Assumes nothing.
use Rattle.std.specs.Prelude.{ℕ, zero, suc, ◌+◌, ◌/◌, cond, List, [], ◌∷◌, ◌++◌, ◌≡◌, ltb, length}
use Rattle.io.specs.Digits.{last_digits}
use Rattle.octets.specs.Octets.{put}

abbrev pub space : ℕ
space = 32

abbrev pub line_end : ℕ
line_end = 10

-- How many decimal digits n has, at least one. `most` bounds the search; n itself is enough.
unfoldable pub places_in : (most : ℕ) → ℕ → ℕ
places_in zero n = 1
places_in (suc most) n = cond (ltb n 10) 1 (suc (places_in most (n / 10)))

-- A number in decimal, without leading zeros.
unfoldable pub decimal : ℕ → List ℕ
decimal n = last_digits 10 (places_in n n) n

-- A number in decimal, and the byte `after` behind it.
unfoldable pub numeral : ℕ → (after : ℕ) → List ℕ
numeral n after = decimal n ++ (after ∷ [])

-- `new` is `old` with the text t written from index `at` on; r is the index behind it.
pub record Puts (old new : List ℕ) (at r : ℕ) (t : List ℕ) : Type 0 where
  pub bytes : new ≡ put old at t
  pub end : r ≡ at + length t
