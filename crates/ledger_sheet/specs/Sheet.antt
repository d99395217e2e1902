-- Document 01, "The ledger sheet", as changed by document 02, request 10: the sizes and offsets of a sheet, and when a list of bytes is a right
-- sheet. Assumes nothing.
-- The manual, docs/INTERFACE.md: "The sheet".
use Rattle.std.specs.Prelude.{ℕ, zero, suc, ◌+◌, ◌*◌, Bool, cond, not, ◌&&◌, ◌||◌, List, eqb, ltb, leb, length, get_or}
use Rattle.keys.specs.Key.{valid_key}
use Rattle.keys.specs.Numbers.{is_number}
use Rattle.octets.specs.Octets.{number_at, all, zero_at, same_at}

-- ---- sizes and offsets

-- A row is 144 bytes: the used flag (4), which is 1 in a used row and 0 in a free one; key (8); first number (4); ticks (128). There are 32 rows, the
-- first at offset 24.
abbrev pub used_flag_size : ℕ
used_flag_size = 4

abbrev pub used_flag : ℕ
used_flag = 1

abbrev pub key_start : ℕ
key_start = used_flag_size

abbrev pub key_size : ℕ
key_size = 8

abbrev pub first_at : ℕ
first_at = key_start + key_size

abbrev pub first_size : ℕ
first_size = 4

abbrev pub ticks_at : ℕ
ticks_at = first_at + first_size

abbrev pub ticks_size : ℕ
ticks_size = 128

abbrev pub row_size : ℕ
row_size = ticks_at + ticks_size

abbrev pub row_count : ℕ
row_count = 32

abbrev pub rows_start : ℕ
rows_start = 24

-- A byte of ticks holds eight positions.
abbrev pub byte_bits : ℕ
byte_bits = 8

-- A desk is 292 bytes: 1 if it is open, its row, two zeros, and two copies of the row: as opened, and as worked on. There are eight desks, from
-- offset 4,632, behind the rows.
abbrev pub desk_row_at : ℕ
desk_row_at = 1

abbrev pub desk_zeros_at : ℕ
desk_zeros_at = 2

abbrev pub desk_zeros_size : ℕ
desk_zeros_size = 2

abbrev pub opened_at : ℕ
opened_at = desk_zeros_at + desk_zeros_size

abbrev pub worked_at : ℕ
worked_at = opened_at + row_size

abbrev pub desk_size : ℕ
desk_size = worked_at + row_size

abbrev pub desk_count : ℕ
desk_count = 8

abbrev pub desks_start : ℕ
desks_start = rows_start + row_size * row_count

-- The whole sheet: 6,968 bytes.
abbrev pub sheet_size : ℕ
sheet_size = desks_start + desk_size * desk_count

-- The header is six numbers of 4 bytes: the sheet's length, how many rows are used, how many rows there are, where they begin, how many desks there
-- are, where they begin.
abbrev pub header_number_size : ℕ
header_number_size = 4

abbrev pub length_at : ℕ
length_at = 0

abbrev pub used_at : ℕ
used_at = 4

abbrev pub row_count_at : ℕ
row_count_at = 8

abbrev pub rows_start_at : ℕ
rows_start_at = 12

abbrev pub desk_count_at : ℕ
desk_count_at = 16

abbrev pub desks_start_at : ℕ
desks_start_at = 20

-- ---- the values there

-- The offsets of row i and desk d. Both count from 0.
abbrev pub row_at : ℕ → ℕ
row_at i = rows_start + row_size * i

abbrev pub desk_at : ℕ → ℕ
desk_at d = desks_start + desk_size * d

-- The number at this offset of the header.
abbrev pub header_number : List ℕ → ℕ → ℕ
header_number s at = number_at s at header_number_size

-- How many rows are used, as the header says.
abbrev pub used : List ℕ → ℕ
used s = header_number s used_at

-- Whether row i is used: its used flag is 1.
abbrev pub is_used : List ℕ → ℕ → Bool
is_used s i = eqb (number_at s (row_at i) used_flag_size) used_flag

-- Whether there is a row with this number. To every call, a free row is no row.
abbrev pub is_row : List ℕ → ℕ → Bool
is_row s i = ltb i row_count && is_used s i

-- The key and the first number of the row, or the copy of a row, at offset a.
abbrev pub key_at : List ℕ → ℕ → ℕ
key_at s a = number_at s (a + key_start) key_size

abbrev pub first_number_at : List ℕ → ℕ → ℕ
first_number_at s a = number_at s (a + first_at) first_size

-- The first byte of desk d, and the row that the desk names.
abbrev pub desk_byte : List ℕ → ℕ → ℕ
desk_byte s d = get_or s (desk_at d) 0

abbrev pub desk_row : List ℕ → ℕ → ℕ
desk_row s d = get_or s (desk_at d + desk_row_at) 0

-- A desk whose first byte is 0 is closed.
abbrev pub is_closed : List ℕ → ℕ → Bool
is_closed s d = eqb (desk_byte s d) 0

-- ---- a right sheet: one definition for each clause

-- The header's fixed numbers are right.
unfoldable pub header_right : List ℕ → Bool
header_right s =
    eqb (header_number s length_at) sheet_size && eqb (header_number s row_count_at) row_count && eqb (header_number s rows_start_at) rows_start
    && eqb (header_number s desk_count_at) desk_count && eqb (header_number s desks_start_at) desks_start

-- How many numbers below n satisfy p.
unfoldable pub count : ℕ → (ℕ → Bool) → ℕ
count zero p = 0
count (suc n) p = count n p + cond (p n) 1 0

-- The header's count is the number of used rows, at whatever places they are.
unfoldable pub count_right : List ℕ → Bool
count_right s = eqb (count row_count (is_used s)) (used s)

-- The keys of used rows are valid.
unfoldable pub valid_keys : List ℕ → Bool
valid_keys s = all row_count (λ i. not (is_used s i) || valid_key (key_at s (row_at i)))

-- None of the first n rows is used and has this key.
unfoldable pub is_new : List ℕ → (n key : ℕ) → Bool
is_new s n key = all n (λ j. not (is_used s j) || not (eqb (key_at s (row_at j)) key))

-- No two used rows have the same key.
unfoldable pub different_keys : List ℕ → Bool
different_keys s = all row_count (λ i. not (is_used s i) || is_new s i (key_at s (row_at i)))

-- Request 03: the first number of a used row is one that records of its stream can have. The copies at desks have the same first number.
unfoldable pub first_numbers : List ℕ → Bool
first_numbers s = all row_count (λ i. not (is_used s i) || is_number (key_at s (row_at i)) (first_number_at s (row_at i)))

-- A row whose used flag is not 1 is all zeros. So a used flag is 1 or 0.
unfoldable pub free_zero : List ℕ → Bool
free_zero s = all row_count (λ i. is_used s i || zero_at s (row_at i) row_size)

-- A closed desk is all zeros.
unfoldable pub closed_zero : List ℕ → ℕ → Bool
closed_zero s d = not (is_closed s d) || zero_at s (desk_at d) desk_size

-- A desk begins with 0 or 1, and its two zeros are zero.
unfoldable pub desk_marked : List ℕ → ℕ → Bool
desk_marked s d = leb (desk_byte s d) 1 && zero_at s (desk_at d + desk_zeros_at) desk_zeros_size

-- The row of an open desk is used, and both copies have its used flag, key and first number.
abbrev pub carries : List ℕ → (copy row : ℕ) → Bool
carries s copy row = same_at s (row_at row) s copy ticks_at

unfoldable pub open_names : List ℕ → ℕ → Bool
open_names s d =
    is_closed s d
    || (is_row s (desk_row s d) && carries s (desk_at d + opened_at) (desk_row s d) && carries s (desk_at d + worked_at) (desk_row s d))

-- Desk d is right.
unfoldable pub desk_right : List ℕ → ℕ → Bool
desk_right s d = closed_zero s d && desk_marked s d && open_names s d

unfoldable pub right : List ℕ → Bool
right s =
    eqb (length s) sheet_size && header_right s && (count_right s && valid_keys s && different_keys s && first_numbers s) && free_zero s
    && all desk_count (desk_right s)
