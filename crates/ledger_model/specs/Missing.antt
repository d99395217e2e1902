-- The missing list of a row: the numbers of the records to order, and what holds of it. Assumes nothing.
-- The manual, docs/INTERFACE.md: "Calls on the ledger".
use Rattle.std.specs.Prelude.{◌≡◌, ℕ, zero, suc, ◌≤◌, true, false, ◌↔◌, List, [], ◌∷◌, map, length, take}
use mathlib.Core.List.{Memᴰ}
use Rattle.ledger_model.specs.Positions.{position, position_number, Positions, has, size, missing}
use Rattle.ledger_model.specs.Book.{Place, free, row}
use Rattle.ledger_model.specs.Counts.{place_report}
use Rattle.ledger_model.specs.WellFormed.{PlaceOk}

-- The positions in a set, in order.
unfoldable pub positions_of : Positions → List ℕ
positions_of [] = []
positions_of (true ∷ s) = zero ∷ map suc (positions_of s)
positions_of (false ∷ s) = map suc (positions_of s)

-- The numbers at the missing positions of a place, in the order of the positions. A free place has none.
abbrev pub missing_numbers : Place → List ℕ
missing_numbers free = []
missing_numbers (row key first ticks) = map (position_number key first) (positions_of (missing ticks))

-- The row report gives the list's length as second number, and the list's first number, if there is one, as third.
abbrev pub AsReported : Type 0
AsReported = (key first : ℕ) (ticks : Positions)
    → let numbers = missing_numbers (row key first ticks) in
    place_report (row key first ticks) ≡ size ticks ∷ length numbers ∷ take 1 numbers

-- A number is in the list exactly if its position is missing: not ticked, with a ticked one above it.
abbrev pub ExactlyMissing : Type 0
ExactlyMissing = (key first : ℕ) (ticks : Positions) → PlaceOk (row key first ticks)
    → (n : ℕ) → Memᴰ n (missing_numbers (row key first ticks)) ↔ (has (missing ticks) (position key first n) ≡ true)

-- If a position is missing, at least one is ticked. So a list of 1,023 numbers is always long enough.
abbrev pub most_missing : ℕ
most_missing = 1023

abbrev pub LongEnough : Type 0
LongEnough = (p : Place) → PlaceOk p → length (missing_numbers p) ≤ most_missing
