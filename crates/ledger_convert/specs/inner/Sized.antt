-- What functions on a right old sheet require of it. Assumes nothing.
use Rattle.std.specs.Prelude.{ℕ, ◌≤◌, List, ◌≡◌, length}
use Rattle.ledger_sheet.specs.Sheet.{row_count, used}
use Rattle.ledger_convert.specs.Old.{sheet_size}

pub record Sized (s : List ℕ) : Type 0 where
  pub long : length s ≡ sheet_size
  pub few : used s ≤ row_count
