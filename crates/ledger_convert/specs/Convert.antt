-- Document 02, request 10, the converter: makes a new sheet with the old sheet's rows at the same places, and its open desks. It answers 20 if the
-- old sheet is not right, or if the slice for the new one does not have 6,968 bytes. Assumes nothing.
-- The manual, docs/INTERFACE.md: "Calls on the ledger".
use Rattle.std.specs.Prelude.{ℕ, ◌+◌, ◌/◌, ◌%◌, ◌^◌, Bool, cond, ◌&&◌, List, [], ◌∷◌, eqb, ltb, length, get_or}
use Rattle.ledger_model.specs.Positions.{row_length, Positions}
use Rattle.ledger_model.specs.Book.{Place, free, row, Desk, closed, working, Book}
use Rattle.ledger_sheet.specs.Sheet.{sheet_size}
use Rattle.octets.specs.Lists.{table}
use Rattle.ledger_sheet.specs.Outcome.{Outcome}
use Rattle.ledger_layout.specs.Layout.{layout}
use Rattle.ledger_sheet.specs.Sheet.{row_count, byte_bits, opened_at, desk_count, used}
use Rattle.ledger_convert.specs.Old.{ticks_at, worked_at, row_at}
use Rattle.ledger_convert.specs.Old.{desk_at, key_at, first_number_at, desk_row, is_closed, right}

-- Position i of the old row or copy at offset a: the byte i / 8 of its ticks, and in that byte the bit with weight 2 ^ (i % 8).
abbrev pub old_ticked_at : List ℕ → ℕ → ℕ → Bool
old_ticked_at s a i = eqb (get_or s (a + ticks_at + i / byte_bits) 0 / 2 ^ (i % byte_bits) % 2) 1

unfoldable pub old_ticks_of : List ℕ → ℕ → Positions
old_ticks_of s a = table row_length (old_ticked_at s a)

-- The book that a right old sheet holds.
unfoldable pub old_place_in : List ℕ → ℕ → Place
old_place_in s i = cond (ltb i (used s)) (row (key_at s (row_at i)) (first_number_at s (row_at i)) (old_ticks_of s (row_at i))) free

unfoldable pub old_desk_in : List ℕ → ℕ → Desk
old_desk_in s d =
    cond (is_closed s d) closed (working (desk_row s d) (old_ticks_of s (desk_at d + opened_at)) (old_ticks_of s (desk_at d + worked_at)))

unfoldable pub old_book_of : List ℕ → Book
old_book_of s = record { places = table row_count (old_place_in s); desks = table desk_count (old_desk_in s) }

-- The answer of the converter, and the new slice after the call: the layout of the old sheet's book.
unfoldable pub convert_on : (old new : List ℕ) → Outcome
convert_on old new = cond (eqb (length new) sheet_size && right old) (0 ∷ [], layout (old_book_of old)) (20 ∷ [], new)
