-- What the searches of rows look for. Assumes nothing.
use Rattle.std.specs.Prelude.{ℕ, zero, suc, Bool, false, cond, eqb, ltb, Option, None, Some}
use Rattle.ledger_model.specs.Book.{Place, free, row, Desk, closed, working}
use Rattle.ledger_sheet.specs.Sheet.{row_count}

-- The lowest number below n that satisfies p; n if there is none.
unfoldable pub lowest : ℕ → (ℕ → Bool) → ℕ
lowest zero p = 0
lowest (suc n) p = cond (p 0) 0 (suc (lowest n (λ i. p (suc i))))

-- The same; none if there is none.
abbrev pub lowest_below : ℕ → (ℕ → Bool) → Option ℕ
lowest_below n p = cond (ltb (lowest n p) n) (Some (lowest n p)) None

-- Whether a place holds the row of the stream with this key.
abbrev pub is_row_of : (key : ℕ) → Place → Bool
is_row_of key free = false
is_row_of key (row k first ticks) = eqb k key

-- The row with this number; none, if the number is that of no row.
abbrev pub found : ℕ → Option ℕ
found i = cond (ltb i row_count) (Some i) None

-- The row that a desk has open.
abbrev pub opened_row : Desk → Option ℕ
opened_row closed = None
opened_row (working r opened worked) = Some r
