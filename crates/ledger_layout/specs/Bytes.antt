-- The bytes of a sheet's header, of a fresh sheet and of an open desk (document 01, "The ledger sheet"). Assumes nothing.
use Rattle.std.specs.Prelude.{ℕ, ◌-◌, List, ◌∷◌, ◌++◌, replicate}
use Rattle.octets.specs.Octets.{bytes_of}
use Rattle.ledger_sheet.specs.Sheet.{sheet_size, row_count, rows_start, desk_count, desks_start}
use Rattle.ledger_sheet.specs.Sheet.{header_number_size}

-- The header of a sheet with n used rows.
unfoldable pub header_bytes : ℕ → List ℕ
header_bytes n =
    bytes_of header_number_size sheet_size ++ bytes_of header_number_size n ++ bytes_of header_number_size row_count
    ++ bytes_of header_number_size rows_start ++ bytes_of header_number_size desk_count ++ bytes_of header_number_size desks_start

-- A fresh sheet: every row is free, every desk is closed.
unfoldable pub fresh_sheet : List ℕ
fresh_sheet = header_bytes 0 ++ replicate (sheet_size - rows_start) 0

-- An open desk: 1, the row's number, two zeros, and two copies of the row: as opened, and as worked on.
unfoldable pub open_desk : ℕ → (opened worked : List ℕ) → List ℕ
open_desk row opened worked = 1 ∷ row ∷ 0 ∷ 0 ∷ opened ++ worked
