-- What stands in the bytes of a row. Assumes nothing.
use Prim.Native.Nat.{ℕ, ◌^◌, ◌<◌}
use native.Mathlib.Omega.{arith}
use mathlib.Core.List.{List, ◌++◌}
use mathlib.Core.Path.{◌≡◌, ◌∙◌}
use lib.ListN.{length, length-append}
use Rattle.octets.specs.Octets.{number_at, bytes_of, part}
use Rattle.octets.proofs.Laws.{length-bytes_of}
use Rattle.octets.proofs.Parts.{number-first, number-second, number-bytes, part-second, part-whole}
use Rattle.ledger_sheet.specs.Sheet.{used_flag_size, used_flag, key_start, key_size, first_at, first_size, ticks_at, ticks_size, row_size, key_at}
use Rattle.ledger_sheet.specs.Sheet.{first_number_at}
use Rattle.ledger_layout.specs.Rows.{row_bytes}

-- ---- the bytes of a row

module _ (key first : ℕ) (ticks : List ℕ) where
  abbrev flag : List ℕ
  flag = bytes_of used_flag_size used_flag

  abbrev head : List ℕ
  head = flag ++ bytes_of key_size key ++ bytes_of first_size first

  length-flag : length flag ≡ used_flag_size
  length-flag = length-bytes_of used_flag_size used_flag

  length-key : length (flag ++ bytes_of key_size key) ≡ first_at
  length-key = rw (length-append flag (bytes_of key_size key), length-flag, length-bytes_of key_size key)

  length-head : length head ≡ ticks_at
  length-head = rw (length-append (flag ++ bytes_of key_size key) (bytes_of first_size first), length-key, length-bytes_of first_size first)

  pub length-row : length ticks ≡ ticks_size → length (row_bytes key first ticks) ≡ row_size
  unfolding row_bytes
  length-row t = rw (length-append head ticks, length-head, t)

  pub row-flag : number_at (row_bytes key first ticks) 0 used_flag_size ≡ used_flag
  unfolding row_bytes
  row-flag =
      number-first head ticks 0 used_flag_size (omega (arith, length-head))
      ∙ number-first (flag ++ bytes_of key_size key) (bytes_of first_size first) 0 used_flag_size (omega (arith, length-key))
      ∙ number-first flag (bytes_of key_size key) 0 used_flag_size (omega (arith, length-flag)) ∙ number-bytes used_flag_size used_flag (omega arith)

  pub row-key : key < 256 ^ key_size → key_at (row_bytes key first ticks) 0 ≡ key
  unfolding row_bytes
  row-key k =
      number-first head ticks key_start key_size (omega (arith, length-head))
      ∙ number-first (flag ++ bytes_of key_size key) (bytes_of first_size first) key_start key_size (omega (arith, length-key))
      ∙ number-second flag (bytes_of key_size key) key_start 0 key_size (omega (arith, length-flag)) ∙ number-bytes key_size key k

  pub row_first : first < 256 ^ first_size → first_number_at (row_bytes key first ticks) 0 ≡ first
  unfolding row_bytes
  row_first f =
      number-first head ticks first_at first_size (omega (arith, length-head))
      ∙ number-second (flag ++ bytes_of key_size key) (bytes_of first_size first) first_at 0 first_size
      (omega (arith, length-key)) ∙ number-bytes first_size first f

  pub row-ticks : length ticks ≡ ticks_size → part (row_bytes key first ticks) ticks_at ticks_size ≡ ticks
  unfolding row_bytes
  row-ticks t = part-second head ticks ticks_at 0 ticks_size (omega (arith, length-head)) ∙ part-whole ticks ticks_size t
