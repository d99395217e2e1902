-- The old sheet (document 01, "The ledger sheet", with request 03's rule for first numbers): its sizes and offsets, and when a list of bytes is a
-- right old sheet. Sizes and offsets that the new sheet shares are defined in `ledger_sheet/specs/Sheet.antt`.
-- Assumes nothing.
-- The manual, docs/INTERFACE.md: "Calls on the ledger".
use Rattle.std.specs.Prelude.{ℕ, ◌+◌, ◌*◌, Bool, not, ◌&&◌, ◌||◌, List, eqb, ltb, leb, length, get_or}
use Rattle.keys.specs.Key.{valid_key}
use Rattle.keys.specs.Numbers.{is_number}
use Rattle.octets.specs.Octets.{number_at, all, zero_at, same_at}
use Rattle.ledger_sheet.specs.Sheet.{key_size, first_size, ticks_size, row_count, rows_start, desk_row_at, desk_zeros_at, desk_zeros_size, opened_at}
use Rattle.ledger_sheet.specs.Sheet.{desk_count}
use Rattle.ledger_sheet.specs.Sheet.{length_at, row_count_at, rows_start_at, desk_count_at, desks_start_at, header_number, used}

-- ---- sizes and offsets

-- A row is 140 bytes: key (8), first number (4), ticks (128). It has no used flag. There are 32 rows, the first at offset 24, behind a header of the
-- same six numbers as the new one's.
abbrev pub first_at : ℕ
first_at = key_size

abbrev pub ticks_at : ℕ
ticks_at = first_at + first_size

abbrev pub row_size : ℕ
row_size = ticks_at + ticks_size

-- A desk is 284 bytes: 1 if it is open, its row, two zeros, and two copies of the row: as opened, and as worked on. There are eight desks, behind the rows.
abbrev pub worked_at : ℕ
worked_at = opened_at + row_size

abbrev pub desk_size : ℕ
desk_size = worked_at + row_size

abbrev pub desks_start : ℕ
desks_start = rows_start + row_size * row_count

-- The whole sheet: 6,776 bytes.
abbrev pub sheet_size : ℕ
sheet_size = desks_start + desk_size * desk_count

-- ---- the values there

-- The offsets of row i and desk d. Both count from 0.
abbrev pub row_at : ℕ → ℕ
row_at i = rows_start + row_size * i

abbrev pub desk_at : ℕ → ℕ
desk_at d = desks_start + desk_size * d

-- The key and the first number of the row, or the copy of a row, at offset a.
abbrev pub key_at : List ℕ → ℕ → ℕ
key_at s a = number_at s a key_size

abbrev pub first_number_at : List ℕ → ℕ → ℕ
first_number_at s a = number_at s (a + first_at) first_size

-- The first byte of desk d, and the row that the desk names.
abbrev pub desk_byte : List ℕ → ℕ → ℕ
desk_byte s d = get_or s (desk_at d) 0

abbrev pub desk_row : List ℕ → ℕ → ℕ
desk_row s d = get_or s (desk_at d + desk_row_at) 0

-- A desk whose first byte is 0 is closed.
abbrev pub is_closed : List ℕ → ℕ → Bool
is_closed s d = eqb (desk_byte s d) 0

-- ---- a right old sheet: one definition for each clause

-- The header's fixed numbers are right, and its count is at most 32.
unfoldable pub header_right : List ℕ → Bool
header_right s =
    eqb (header_number s length_at) sheet_size && leb (used s) row_count && eqb (header_number s row_count_at) row_count
    && eqb (header_number s rows_start_at) rows_start && eqb (header_number s desk_count_at) desk_count
    && eqb (header_number s desks_start_at) desks_start

-- The used rows come first. Their keys are valid, and no two are the same.
unfoldable pub valid_keys : List ℕ → Bool
valid_keys s = all (used s) (λ i. valid_key (key_at s (row_at i)))

unfoldable pub different_keys : List ℕ → Bool
different_keys s = all (used s) (λ i. all i (λ j. not (eqb (key_at s (row_at j)) (key_at s (row_at i)))))

-- Request 03: the first number of a used row is one that records of its stream can have. The copies at desks have the same first number.
unfoldable pub first_numbers : List ℕ → Bool
first_numbers s = all (used s) (λ i. is_number (key_at s (row_at i)) (first_number_at s (row_at i)))

-- Unused rows and closed desks are all zeros.
unfoldable pub unused_zero : List ℕ → Bool
unused_zero s = all row_count (λ i. ltb i (used s) || zero_at s (row_at i) row_size)

unfoldable pub closed_zero : List ℕ → ℕ → Bool
closed_zero s d = not (is_closed s d) || zero_at s (desk_at d) desk_size

-- A desk begins with 0 or 1, and its two zeros are zero.
unfoldable pub desk_marked : List ℕ → ℕ → Bool
desk_marked s d = leb (desk_byte s d) 1 && zero_at s (desk_at d + desk_zeros_at) desk_zeros_size

-- The row of an open desk is used, and both copies have its key and first number.
abbrev pub carries : List ℕ → (copy row : ℕ) → Bool
carries s copy row = same_at s (row_at row) s copy ticks_at

unfoldable pub open_names : List ℕ → ℕ → Bool
open_names s d =
    is_closed s d
    || (ltb (desk_row s d) (used s) && carries s (desk_at d + opened_at) (desk_row s d) && carries s (desk_at d + worked_at) (desk_row s d))

-- Desk d is right.
unfoldable pub desk_right : List ℕ → ℕ → Bool
desk_right s d = closed_zero s d && desk_marked s d && open_names s d

unfoldable pub right : List ℕ → Bool
right s =
    eqb (length s) sheet_size && header_right s && (valid_keys s && different_keys s && first_numbers s) && unused_zero s
    && all desk_count (desk_right s)
