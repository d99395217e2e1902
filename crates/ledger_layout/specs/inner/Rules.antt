-- The refusals of a call on a sheet: 20, then those of the model for the book that the sheet holds. Assumes nothing.
use Rattle.std.specs.Prelude.{ℕ, ◌≡◌, true, not, length, List, ◌∷◌}
use Rattle.refusals.specs.Judge.{Rule, ◌when◌}
use Rattle.ledger_model.specs.Step.{Call, refusals}
use Rattle.ledger_sheet.specs.Sheet.{sheet_size, right}
use Rattle.ledger_layout.specs.Layout.{book_of}

abbrev pub rules_on : Call → List ℕ → List (Rule ℕ)
rules_on c s = (20 when not (right s)) ∷ refusals c (book_of s)

-- What functions on a book require: a right sheet, and its length, which the code needs.
abbrev pub IsSheet : List ℕ → Type 0
IsSheet s = (right s ≡ true) × (length s ≡ sheet_size)
