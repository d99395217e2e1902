-- The 32 bits of a signed number in two's complement, as a number. (`twos 32` of Packing.antt is the way back.) Assumes nothing.
use Rattle.std.specs.Prelude.{ℕ, suc, ◌-◌, ℤ, pos, negsuc}

unfoldable pub bits_of : ℤ → ℕ
bits_of (pos n) = n
bits_of (negsuc n) = 4294967296 - suc n
