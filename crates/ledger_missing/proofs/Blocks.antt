-- The numbers that are stored for a block of ticks, and for those behind it. Assumes nothing.
use Prim.Native.Nat.{ℕ, ◌+◌, ◌-◌, ◌*◌, min}
use mathlib.Core.List.{List}
use Rattle.ledger_model.specs.Positions.{position_number}
use Rattle.ledger_counts.specs.inner.Blocks.{block_bits}
use Rattle.ledger_missing.specs.inner.Gaps.{gaps_in, numbers_at}

-- The number at bit i, and those at the bits of a block.
abbrev pub number_of : (key first base i : ℕ) → ℕ
number_of key first base i = position_number key first (base + i)

abbrev pub numbers : (key first base block : ℕ) → List ℕ
numbers key first base block = numbers_at (number_of key first base) block_bits block

-- The numbers from block k on, and those of block k.
abbrev pub onward : (s : List ℕ) (a end k : ℕ) → List ℕ
onward s a end k = gaps_in s a (block_bits * k) (end - block_bits * k)

abbrev pub here : (s : List ℕ) (a end k : ℕ) → List ℕ
here s a end k = gaps_in s a (block_bits * k) (min block_bits (end - block_bits * k))
