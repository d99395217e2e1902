-- The sizes that document 02, request 10, gives in numbers. Assumes nothing.
-- The manual, docs/INTERFACE.md: "The sheet".
use Rattle.std.specs.Prelude.{◌≡◌}
use Rattle.ledger_sheet.specs.Sheet.{sheet_size, row_size, rows_start, row_count, desk_size, desk_count, desks_start}

pub record Sizes : Type 0 where
  pub row : row_size ≡ 144
  pub rows : row_count ≡ 32
  pub rows_from : rows_start ≡ 24
  pub desk : desk_size ≡ 292
  pub desks : desk_count ≡ 8
  pub desks_from : desks_start ≡ 4632
  pub sheet : sheet_size ≡ 6968
