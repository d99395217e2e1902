-- Little-endian numbers. Assumes nothing.
use Rattle.std.specs.Prelude.{ℕ, zero, suc, ◌+◌, ◌*◌, List, get_or}

-- the little-endian number in the n bytes of s from index a
unfoldable pub little_at : List ℕ → ℕ → ℕ → ℕ
little_at s a zero = 0
little_at s a (suc n) = get_or s a 0 + 256 * little_at s (a + 1) n
