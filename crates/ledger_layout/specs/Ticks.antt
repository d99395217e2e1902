-- The ticked positions of a row, or of a desk's copy of one (document 01, "The ledger sheet"). Assumes nothing.
use Rattle.std.specs.Prelude.{ℕ, ◌+◌, ◌/◌, ◌%◌, ◌^◌, Bool, List, eqb, get_or}
use Rattle.octets.specs.Lists.{table}
use Rattle.ledger_model.specs.Positions.{row_length, Positions}
use Rattle.ledger_sheet.specs.Sheet.{ticks_at, byte_bits}

-- Position i of the row or copy at offset a: the byte i / 8 of its ticks, and in that byte the bit with weight 2 ^ (i % 8).
abbrev pub tick_byte_at : ℕ → ℕ → ℕ
tick_byte_at a i = a + ticks_at + i / byte_bits

abbrev pub tick_bit : ℕ → ℕ
tick_bit i = 2 ^ (i % byte_bits)

unfoldable pub ticked_at : List ℕ → ℕ → ℕ → Bool
ticked_at s a i = eqb (get_or s (tick_byte_at a i) 0 / tick_bit i % 2) 1

-- The set of ticked positions of the row or copy at offset a.
unfoldable pub ticks_in : List ℕ → ℕ → Positions
ticks_in s a = table row_length (ticked_at s a)
