-- Right sheets are exactly the layouts of well-formed books; and what `fresh` does with a slice. Assumes nothing.
-- The manual, docs/INTERFACE.md: "The sheet".
use Rattle.std.specs.Prelude.{ℕ, true, List, [], ◌∷◌, ◌≢◌, ◌≡◌, length}
use Rattle.octets.specs.Octets.{AreBytes}
use Rattle.ledger_model.specs.Book.{Book, fresh}
use Rattle.ledger_model.specs.WellFormed.{WellFormed}
use Rattle.ledger_sheet.specs.Sheet.{sheet_size, right}
use Rattle.ledger_layout.specs.Layout.{layout, book_of, fresh_on}

pub record BothWays : Type 0 where
  -- A right sheet holds a well-formed book, and is that book's layout.
  pub holds_a_book : (s : List ℕ) → AreBytes s → right s ≡ true → WellFormed (book_of s)
  pub is_its_layout : (s : List ℕ) → AreBytes s → right s ≡ true → layout (book_of s) ≡ s
  -- The layout of a well-formed book is a right sheet, and holds that book.
  pub is_right : (b : Book) → WellFormed b → right (layout b) ≡ true
  pub holds_it : (b : Book) → WellFormed b → book_of (layout b) ≡ b

-- Fresh tests only the length. A slice of the right length becomes the layout of the fresh book, whatever it held; any other slice is unchanged.
pub record FreshByLength : Type 0 where
  pub made : (s : List ℕ) → length s ≡ sheet_size → fresh_on s ≡ (0 ∷ [], layout fresh)
  pub refused : (s : List ℕ) → length s ≢ sheet_size → fresh_on s ≡ (20 ∷ [], s)
