-- The layout of the model's book as a sheet, the book that a right sheet holds, and the model's calls as calls on a sheet (document 01, "The ledger
-- sheet" and "The plain book"; the two must agree in every byte). Assumes nothing.
-- The manual, docs/INTERFACE.md: "The sheet".
use Rattle.std.specs.Prelude.{ℕ, zero, suc, ◌+◌, ◌*◌, Bool, true, false, cond, List, [], ◌∷◌, ◌++◌, eqb, length, get_or, take, drop, replicate}
use Rattle.ledger_model.specs.Positions.{Positions}
use Rattle.ledger_model.specs.Book.{Place, free, row, Desk, closed, working, Book, fresh, with_ticks}
use Rattle.ledger_model.specs.Step.{Call, answer_words, step}
use Rattle.ledger_sheet.specs.Sheet.{sheet_size, row_size, row_count, ticks_size, byte_bits, opened_at, worked_at, desk_size, desk_count}
use Rattle.ledger_sheet.specs.Sheet.{row_at, desk_at, is_used, key_at, first_number_at, desk_row, is_closed, right}
use Rattle.ledger_layout.specs.Ticks.{ticks_in}
use Rattle.octets.specs.Lists.{table, laid}
use Rattle.ledger_layout.specs.Rows.{row_bytes}
use Rattle.ledger_sheet.specs.Outcome.{Outcome}
use Rattle.ledger_layout.specs.Bytes.{header_bytes, open_desk}

-- ---- the layout of a book

-- The number whose bits, from the lowest, are these flags.
abbrev pub bit : Bool → ℕ
bit true = 1
bit false = 0

unfoldable pub bits_value : List Bool → ℕ
bits_value [] = 0
bits_value (x ∷ xs) = bit x + 2 * bits_value xs

-- A set as n bytes of eight positions each. The lowest position is in the lowest bit.
unfoldable pub tick_bytes : (n : ℕ) → Positions → List ℕ
tick_bytes zero t = []
tick_bytes (suc n) t = bits_value (take byte_bits t) ∷ tick_bytes n (drop byte_bits t)

-- A row is 144 bytes: used flag 1 (4), key (8), first number (4), ticks (128). A free row is all zeros.
unfoldable pub place_bytes : Place → List ℕ
place_bytes free = replicate row_size 0
place_bytes (row key first ticks) = row_bytes key first (tick_bytes ticks_size ticks)

-- A desk is 292 bytes: 1 if it is open, its row, two zeros, and two copies of the row: as opened, and as worked on. Each copy has its own set of
-- ticks and the row's used flag, key and first number. A closed desk is all zeros.
unfoldable pub desk_bytes : List Place → Desk → List ℕ
desk_bytes places closed = replicate desk_size 0
desk_bytes places (working r opened worked) =
    open_desk r (place_bytes (with_ticks opened (get_or places r free))) (place_bytes (with_ticks worked (get_or places r free)))

-- How many rows are used, as the header says.
unfoldable pub count_used : List Place → ℕ
count_used [] = 0
count_used (free ∷ ps) = count_used ps
count_used (row key first ticks ∷ ps) = suc (count_used ps)

-- The header, the rows, the desks.
unfoldable pub layout : Book → List ℕ
layout b = header_bytes (count_used b.places) ++ laid place_bytes b.places ++ laid (desk_bytes b.places) b.desks

-- ---- the book that a right sheet holds

unfoldable pub place_in : List ℕ → ℕ → Place
place_in s i = cond (is_used s i) (row (key_at s (row_at i)) (first_number_at s (row_at i)) (ticks_in s (row_at i))) free

unfoldable pub desk_in : List ℕ → ℕ → Desk
desk_in s d =
    cond (is_closed s d) closed (working (desk_row s d) (ticks_in s (desk_at d + opened_at)) (ticks_in s (desk_at d + worked_at)))

unfoldable pub book_of : List ℕ → Book
book_of s = record { places = table row_count (place_in s); desks = table desk_count (desk_in s) }

-- ---- the model's calls on a sheet

-- The words of a call's answer, and the book after the call.
abbrev pub call : Call → Book → List ℕ × Book
call c b = (answer_words (step c b).answer, (step c b).book)

abbrev pub laid_out : List ℕ × Book → Outcome
laid_out r = (r.0, layout r.1)

-- A call on a sheet. If it is not right: 20, and unchanged. If it is right: the layout of what the model's call makes of the book in it.
unfoldable pub on_sheet : (Book → List ℕ × Book) → List ℕ → Outcome
on_sheet f s = cond (right s) (laid_out (f (book_of s))) (20 ∷ [], s)

-- Fresh: 20 if the length is wrong. It tests nothing else.
unfoldable pub fresh_on : List ℕ → Outcome
fresh_on s = cond (eqb (length s) sheet_size) (0 ∷ [], layout fresh) (20 ∷ [], s)
