-- Setting and clearing ticks in a row or a desk's copy of one, and rows as values. Assumes nothing.
use Rattle.std.specs.Prelude.{ℕ, ◌+◌, ◌-◌, List, get_or, set, replicate}
use Rattle.octets.specs.Octets.{part}
use Rattle.ledger_sheet.specs.Sheet.{ticks_at, ticks_size, key_at, first_number_at}
use Rattle.ledger_layout.specs.Ticks.{tick_byte_at, tick_bit}
use Rattle.ledger_sheet.specs.declared.Row.{Row}

-- Sets or clears the bit of position i in the row or copy at offset a.
unfoldable pub set_tick : List ℕ → ℕ → ℕ → List ℕ
set_tick s a i = set s (tick_byte_at a i) (get_or s (tick_byte_at a i) 0 + tick_bit i)

unfoldable pub clear_tick : List ℕ → ℕ → ℕ → List ℕ
clear_tick s a i = set s (tick_byte_at a i) (get_or s (tick_byte_at a i) 0 - tick_bit i)

-- The ticks of a new row: 128 zeros.
unfoldable pub blank_ticks : List ℕ
blank_ticks = replicate ticks_size 0

-- The row at offset a, as a value.
unfoldable pub row_value_at : List ℕ → ℕ → Row
row_value_at s a = record { key = key_at s a; first = first_number_at s a; ticks = part s (a + ticks_at) ticks_size }

unfoldable pub blank_row : (key first : ℕ) → Row
blank_row key first = record { key = key; first = first; ticks = blank_ticks }
