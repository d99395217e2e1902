-- Numbers and ranges in a list of bytes. All numbers are big-endian, as in document 01.
-- Assumes nothing.
use Rattle.std.specs.Prelude.{ℕ, zero, suc, ◌+◌, ◌*◌, ◌/◌, ◌%◌, ◌<◌, Bool, true, ◌&&◌, List, [], ◌∷◌, ◌++◌, length, take, drop, get_or, eqb}

-- Every element is a byte, below 256.
abbrev pub AreBytes : List ℕ → Type 0
AreBytes s = (k : ℕ) → get_or s k 0 < 256

-- the big-endian number in the n bytes of s from index a
unfoldable pub number_at : List ℕ → ℕ → ℕ → ℕ
number_at s a zero = 0
number_at s a (suc n) = number_at s a n * 256 + get_or s (a + n) 0

-- v as n big-endian bytes
unfoldable pub bytes_of : ℕ → ℕ → List ℕ
bytes_of zero v = []
bytes_of (suc n) v = bytes_of n (v / 256) ++ (v % 256 ∷ [])

-- the n bytes of s from index a
unfoldable pub part : List ℕ → ℕ → ℕ → List ℕ
part s a n = take n (drop a s)

-- s with the bytes from index a on replaced by those of v
unfoldable pub put : List ℕ → ℕ → List ℕ → List ℕ
put s a v = take a s ++ v ++ drop (a + length v) s

-- whether p holds of every number below n
unfoldable pub all : ℕ → (ℕ → Bool) → Bool
all zero p = true
all (suc n) p = all n p && p n

-- whether the n bytes of s from index a are zero
unfoldable pub zero_at : List ℕ → ℕ → ℕ → Bool
zero_at s a n = all n (λ i. eqb (get_or s (a + i) 0) 0)

-- whether the n bytes of s from index a equal the n bytes of t from index b
unfoldable pub same_at : List ℕ → ℕ → List ℕ → ℕ → ℕ → Bool
same_at s a t b n = all n (λ i. eqb (get_or s (a + i) 0) (get_or t (b + i) 0))
