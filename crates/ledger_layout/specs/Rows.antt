-- The bytes of a row, or of a desk's copy of one (document 01, "The ledger sheet"). Assumes nothing.
use Rattle.std.specs.Prelude.{ℕ, List, ◌++◌}
use Rattle.octets.specs.Octets.{bytes_of}
use Rattle.ledger_sheet.specs.Sheet.{used_flag_size, used_flag, key_size, first_size}

-- A row is 144 bytes: used flag 1 (4), key (8), first number (4), ticks (128).
unfoldable pub row_bytes : (key first : ℕ) → List ℕ → List ℕ
row_bytes key first ticks = bytes_of used_flag_size used_flag ++ bytes_of key_size key ++ bytes_of first_size first ++ ticks
