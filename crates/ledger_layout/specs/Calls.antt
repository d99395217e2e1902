-- The outcome of every call on every slice of bytes, by what the model does with the book in the slice. Assumes nothing.
-- The manual, docs/INTERFACE.md: "Calls on the ledger".
use Rattle.std.specs.Prelude.{ℕ, true, false, List, [], ◌∷◌, ◌≢◌, ◌≡◌}
use Rattle.refusals.specs.Judge.{verdict}
use Rattle.octets.specs.Octets.{AreBytes}
use Rattle.ledger_model.specs.Step.{Call, answer_words, refusals, effect, after_refusal}
use Rattle.ledger_sheet.specs.Sheet.{right}
use Rattle.ledger_layout.specs.Layout.{layout, book_of, call, on_sheet}

pub record CallOnSheet : Type 0 where
  -- A slice that is not a right sheet: 20, and unchanged.
  pub no-sheet : (c : Call) (s : List ℕ) → right s ≡ false → on_sheet (call c) s ≡ (20 ∷ [], s)
  -- A right sheet, and the model refuses the call: the refusal's number, and the layout of the book that the refusal leaves.
  pub refused : (c : Call) (s : List ℕ) → right s ≡ true → (n : ℕ) → n ≡ verdict (refusals c (book_of s)) → n ≢ 0
      → on_sheet (call c) s ≡ (n ∷ [], layout (after_refusal n c (book_of s)))
  -- If the refusal leaves the book unchanged, no byte changes.
  pub refused_stays : (c : Call) (s : List ℕ) → AreBytes s → right s ≡ true → (n : ℕ) → n ≡ verdict (refusals c (book_of s)) → n ≢ 0
      → after_refusal n c (book_of s) ≡ book_of s → on_sheet (call c) s ≡ (n ∷ [], s)
  -- A right sheet, and the model accepts the call: its answer, and the layout of the book after the call.
  pub accepted : (c : Call) (s : List ℕ) → right s ≡ true → verdict (refusals c (book_of s)) ≡ 0
      → on_sheet (call c) s ≡ (answer_words (effect c (book_of s)).answer, layout (effect c (book_of s)).book)

-- A call leaves a right sheet right.
abbrev pub StaysRight : Type 0
StaysRight = (c : Call) (s : List ℕ) → AreBytes s → right s ≡ true → right (on_sheet (call c) s).1 ≡ true
