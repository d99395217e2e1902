-- Every call on a converted sheet does what the model does on the old sheet's book. Assumes nothing.
use Rattle.std.specs.Prelude.{ℕ, true, List, [], ◌∷◌, ◌≡◌}
use Rattle.ledger_model.specs.Book.{Book}
use Rattle.ledger_model.specs.Step.{Call}
use Rattle.ledger_layout.specs.Layout.{book_of, call, laid_out, on_sheet}
use Rattle.ledger_convert.specs.Old as Old
use Rattle.ledger_convert.specs.Convert.{old_book_of, convert_on}

pub record AnswersAsBefore (old new : List ℕ) : Type 0 where
  -- The new sheet holds the old one's book.
  pub same_book : book_of new ≡ old_book_of old
  -- Every call on it answers what the model answers on that book, and leaves the layout of the book that the model leaves.
  pub same_calls : (c : Call) → on_sheet (call c) new ≡ laid_out (call c (old_book_of old))

-- This holds of every old sheet that the converter accepts, whatever was in the new slice.
abbrev pub ConvertedAnswers : Type 0
ConvertedAnswers = (old new t : List ℕ) → (0 ∷ [], t) ≡ convert_on old new → AnswersAsBefore old t

-- Every call on a sheet refuses an old sheet with 20, and leaves it unchanged.
abbrev pub OldRefused : Type 0
OldRefused = (old : List ℕ) → Old.right old ≡ true → (f : Book → List ℕ × Book) → on_sheet f old ≡ (20 ∷ [], old)
