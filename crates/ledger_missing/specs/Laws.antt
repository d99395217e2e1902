-- What holds of every missing list. Assumes nothing.
-- The manual, docs/INTERFACE.md: "Calls on the ledger".
use Rattle.std.specs.Prelude.{ℕ, ◌≤◌, ◌≡◌, ◌≢◌, ◌↔◌, true, false, length, take}
use mathlib.Core.List.{List, [], ◌∷◌, Memᴰ}
use Rattle.ledger_model.specs.Positions.{has, size, missing}
use Rattle.ledger_model.specs.Book.{place, is_free, ticks_of, position_at}
use Rattle.ledger_model.specs.Step.{Ask, RowReport}
use Rattle.ledger_model.specs.Missing.{most_missing}
use Rattle.ledger_sheet.specs.Sheet.{right}
use Rattle.ledger_layout.specs.Layout.{book_of, call, on_sheet}
use Rattle.octets.specs.Octets.{AreBytes}
use Rattle.ledger_missing.specs.Missing.{missing_of, missing_on}

-- The missing list of a row of a right sheet.
pub record MissingList (s : List ℕ) (row : ℕ) : Type 0 where
  -- Row report gives the list's length as missing count, and the list's first number as lowest missing number.
  pub as-reported : (on_sheet (call (Ask (RowReport row))) s).0
      ≡ 0 ∷ size (ticks_of (place (book_of s) row)) ∷ length (missing_of s row) ∷ take 1 (missing_of s row)
  -- A number is in the list exactly if its position in the row is missing.
  pub exactly : (n : ℕ) → Memᴰ n (missing_of s row)
      ↔ (has (missing (ticks_of (place (book_of s) row))) (position_at (place (book_of s) row) n) ≡ true)

abbrev pub EveryMissingList : Type 0
EveryMissingList = (s : List ℕ) → AreBytes s → right s ≡ true → (row : ℕ) → is_free (place (book_of s) row) ≡ false → MissingList s row

-- A list of 1,023 numbers is never too short.
abbrev pub NeverTooShort : Type 0
NeverTooShort = (s list : List ℕ) (row : ℕ) → AreBytes s → most_missing ≤ length list → (missing_on row s list).0 ≢ 60 ∷ []
