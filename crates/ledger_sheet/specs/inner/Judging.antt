-- Definitions that only the contracts of `is_sheet`'s inner functions cite. Assumes nothing.
use Rattle.std.specs.Prelude.{ℕ, ◌-◌, ◌≤◌, ◌<◌, ◌%◌, Bool, true, false, ◌&&◌, List, ◌≡◌, get_or, Option, None, Some}
use Rattle.octets.specs.Octets.{zero_at}
use Rattle.ledger_sheet.specs.Sheet.{desks_start, count_right, valid_keys, different_keys, first_numbers, free_zero}

-- The clauses about rows.
abbrev pub rows_right : List ℕ → Bool
rows_right s = count_right s && valid_keys s && different_keys s && first_numbers s && free_zero s

-- The rows are right exactly if `judged` is true and the bytes from index z to the desks are zero.
pub record Zeros (s : List ℕ) (judged : Bool) (z : ℕ) : Type 0 where
  pub within : z ≤ desks_start
  pub says : (judged && zero_at s z (desks_start - z)) ≡ rows_right s

-- The rows are right exactly if the bytes from this index to the desks are zero; with none, they are not.
abbrev pub RowsEnd : List ℕ → Option ℕ → Type 0
RowsEnd s None = rows_right s ≡ false
RowsEnd s (Some z) = Zeros s true z

-- Each of the first n keys has set its mark.
abbrev pub mark_count : ℕ
mark_count = 64

abbrev pub Marked : (keys marks : List ℕ) (n : ℕ) → Type 0
Marked keys marks n = (j : ℕ) → j < n → get_or marks (get_or keys j 0 % mark_count) 0 ≡ 1
