-- Definitions that only the contracts of the converter's inner functions cite. Assumes nothing.
use Rattle.std.specs.Prelude.{ℕ, ◌<◌, cond, List, ◌≡◌, ltb, length, replicate}
use Rattle.octets.specs.Octets.{part}
use Rattle.ledger_sheet.specs.Sheet.{sheet_size, row_size, row_count, rows_start, desk_size, desk_count, row_at, desk_at}
use Rattle.ledger_layout.specs.Bytes.{header_bytes}
use Rattle.ledger_layout.specs.Layout.{place_bytes, desk_bytes}
use Rattle.ledger_sheet.specs.Sheet.{used}
use Rattle.ledger_convert.specs.Convert.{old_place_in, old_desk_in, old_book_of}

-- The header, the first k rows and the first d desks of the new sheet are written; the rest is zero.
pub record Laid (old new : List ℕ) (k d : ℕ) : Type 0 where
  pub long : length new ≡ sheet_size
  pub header : part new 0 rows_start ≡ header_bytes (used old)
  pub rows : (j : ℕ) → j < row_count → part new (row_at j) row_size ≡ cond (ltb j k) (place_bytes (old_place_in old j)) (replicate row_size 0)
  pub desks : (e : ℕ) → e < desk_count
      → part new (desk_at e) desk_size ≡ cond (ltb e d) (desk_bytes (old_book_of old).places (old_desk_in old e)) (replicate desk_size 0)
