-- What a function that loads a sheet gives. Assumes nothing.
use Rattle.std.specs.Prelude.{ℕ, Bool, true, false, List, ◌≡◌, Option, Some, None}
use Rattle.season_report.specs.Loaded.{Found, placing}

abbrev pub sheet_found : (converted : Bool) → Found
sheet_found converted = record { is_sheet = true; converted = converted }

-- The slot holds what the program makes from the bytes. It gives whether it converted a sheet; none if the file is no sheet.
abbrev pub Places : (file old new : List ℕ) → Option Bool → Type 0
Places file old new (Some converted) = (sheet_found converted, new) ≡ placing file old
Places file old new None = ((placing file old).0.is_sheet ≡ false) × (new ≡ (placing file old).1)
