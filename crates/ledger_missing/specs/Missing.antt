-- The missing list: what the call answers, and the lent list after it. Assumes nothing.
-- The manual, docs/INTERFACE.md: "Calls on the ledger".
use Rattle.std.specs.Prelude.{ℕ, not, List, [], ◌∷◌, ◌++◌, ltb, length, drop, Result}
use Rattle.refusals.specs.declared.Refusal.{Refusal}
use Rattle.refusals.specs.Words.{answer_words, one_word, Different}
use Rattle.refusals.specs.Judge.{Rule, ◌when◌, judge}
use Rattle.ledger_model.specs.Book.{place, is_free}
use Rattle.ledger_model.specs.Missing.{missing_numbers}
use Rattle.ledger_sheet.specs.Sheet.{right}
use Rattle.ledger_layout.specs.Layout.{book_of}

-- The words of an answer: 0 and the count, or the refusal's number.
abbrev pub missing_words : Result ℕ Refusal → List ℕ
missing_words answer = answer_words one_word answer

-- Different answers have different words.
abbrev pub DifferentMissing : Type 0
DifferentMissing = Different missing_words

-- A list whose first elements become xs; the others are unchanged.
abbrev pub fills : List ℕ → List ℕ → List ℕ
fills xs old = xs ++ drop (length xs) old

-- The missing numbers of a row, from the book that the sheet holds.
abbrev pub missing_of : List ℕ → (row : ℕ) → List ℕ
missing_of s row = missing_numbers (place (book_of s) row)

-- The refusals, in this order: 20, 25, 60.
abbrev pub missing_rules : (row : ℕ) (s list : List ℕ) → List (Rule ℕ)
missing_rules row s list =
    (20 when not (right s))
    ∷ (25 when is_free (place (book_of s) row))
    ∷ (60 when ltb (length list) (length (missing_of s row)))
    ∷ []

-- The words of the answer, and the list after the call. A refusal leaves the list unchanged.
unfoldable pub missing_on : (row : ℕ) (s list : List ℕ) → List ℕ × List ℕ
missing_on row s list =
    judge (λ number. (number ∷ [], list)) (missing_rules row s list) (0 ∷ length (missing_of s row) ∷ [], fills (missing_of s row) list)
