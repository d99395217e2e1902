-- Words of ticks: the ticks of 64 positions as the bits of one number. Assumes nothing.
use Rattle.std.specs.Prelude.{ℕ, ◌+◌, ◌*◌, ◌/◌, ◌%◌, ◌^◌, ◌≤◌, ◌<◌, Bool, true, false, List, ◌≡◌, eqb}
use Rattle.ledger_model.specs.Positions.{row_length}
use Rattle.ledger_layout.specs.Ticks.{ticked_at}

-- A block has 64 bits. A row has 16 blocks, counted in four groups of four.
abbrev pub block_bits : ℕ
block_bits = 64

abbrev pub block_count : ℕ
block_count = 16

-- The first position of the last block.
abbrev pub last_block_at : ℕ
last_block_at = 960

abbrev pub group_blocks : ℕ
group_blocks = 4

abbrev pub group_count : ℕ
group_count = 4

-- Bit k of x; bit 0 is the lowest.
abbrev pub bit_of : ℕ → ℕ → Bool
bit_of x k = eqb (x / 2 ^ k % 2) 1

-- w holds the ticks of positions 64 k to 64 k + 63 of the row at offset a: bit i is position 64 k + i.
abbrev pub IsBlock : List ℕ → (a k w : ℕ) → Type 0
IsBlock s a k w = (i : ℕ) → i < block_bits → bit_of w i ≡ ticked_at s a (block_bits * k + i)

-- Every position from i to below j is ticked.
abbrev pub TickedFrom : List ℕ → (a i j : ℕ) → Type 0
TickedFrom s a i j = (k : ℕ) → i ≤ k → k < j → ticked_at s a k ≡ true

-- All positions from i on are ticked, and none below i.
pub record StartsAt (s : List ℕ) (a i : ℕ) : Type 0 where
  pub ticked : TickedFrom s a i row_length
  pub unticked : (k : ℕ) → k < i → ticked_at s a k ≡ false

-- i is the lowest unticked position of block k.
pub record UntickedFirst (s : List ℕ) (a k i : ℕ) : Type 0 where
  pub start : block_bits * k ≤ i
  pub within : i < block_bits * (k + 1)
  pub ticked : TickedFrom s a (block_bits * k) i
  pub unticked : ticked_at s a i ≡ false
