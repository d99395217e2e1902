-- Definitions that only contracts of inner functions cite. Assumes nothing.
use Rattle.std.specs.Prelude.{ℕ, suc, ◌+◌, ◌-◌, List, ℤ, pos, negsuc}
use Rattle.sfdu_samples.specs.Packing.{unpacked}
use Rattle.sfdu_samples.specs.Calls.{writes, data_rules}

-- Unpack, after the refusals of read headers: a data part d of this size and rate.
unfoldable pub unpacking_data : (size rate : ℕ) → List ℕ → List ℤ → List ℕ × List ℤ
unpacking_data size rate d old = writes (data_rules size rate d old) (unpacked size d) old

-- A number of 32 bits plus 2 ^ 31.
unfoldable pub raised : ℤ → ℕ
raised (pos n) = n + 2147483648
raised (negsuc n) = 2147483648 - suc n
