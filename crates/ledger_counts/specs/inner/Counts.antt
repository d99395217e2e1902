-- Counts of a row's ticks, from its bytes. Assumes nothing.
use Rattle.std.specs.Prelude.{ℕ, zero, suc, Bool, cond, List, ◌∷◌}
use Rattle.ledger_model.specs.Positions.{position_number}
use Rattle.ledger_model.specs.Book.{row}
use Rattle.ledger_model.specs.Counts.{place_report}
use Rattle.ledger_sheet.specs.Sheet.{key_at, first_number_at}
use Rattle.ledger_layout.specs.Ticks.{ticks_in}

-- One more than the highest number below n that satisfies p; 0 if there is none.
unfoldable pub past_highest : ℕ → (ℕ → Bool) → ℕ
past_highest zero p = 0
past_highest (suc n) p = cond (p n) (suc n) (past_highest n p)

-- The number at position i of the row at offset a.
abbrev pub number_at_position : List ℕ → ℕ → ℕ → ℕ
number_at_position s a i = position_number (key_at s a) (first_number_at s a) i

-- The words of the row report for the row at offset a.
unfoldable pub report_words : List ℕ → ℕ → List ℕ
report_words s a = 0 ∷ place_report (row (key_at s a) (first_number_at s a) (ticks_in s a))
