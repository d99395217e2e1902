-- One number computed from an answer. The benchmarks compare two implementations by it. Assumes nothing.
use Rattle.std.specs.Prelude.{ℕ, ◌+◌, ◌*◌, ◌^◌, Bool, cond, ◌&&◌, List, [], ◌∷◌, eqb, ltb, length, get_or, drop}
use Rattle.std.specs.Int.Bits.{bit_xor}
use Rattle.ledger_sheet.specs.Sheet.{sheet_size, row_count, row_at}
use Rattle.ledger_counts.specs.inner.Counts.{report_words}
use Rattle.ledger_season.specs.Report.{most_sheets}
use Rattle.sfdu_headers.specs.Words.{Word, number, signed, none}

-- The number of a word; 0 for a signed word and for none.
abbrev pub value : Word → ℕ
value (number n) = n
value (signed z) = 0
value none = 0

-- The exclusive or of the words' numbers and a number.
abbrev pub onto : List Word → ℕ → ℕ
onto [] rest = rest
onto (w ∷ words) rest = bit_xor (value w) (onto words rest)

abbrev pub digest : List Word → ℕ
digest words = onto words 0

-- The exclusive or of numbers.
unfoldable pub xor_of : List ℕ → ℕ
xor_of [] = 0
xor_of (n ∷ ns) = bit_xor n (xor_of ns)

abbrev pub flag : Bool → ℕ
flag b = cond b 1 0

-- One number of a row report: its ticked and missing counts and its lowest missing number; or the refusal's number.
abbrev pub counts : List ℕ → ℕ
counts words = cond (eqb (get_or words 0 0) 0) (bit_xor (get_or words 1 0 * 2 ^ 32 + get_or words 2 0) (get_or words 3 0)) (get_or words 0 0)

-- The same for a row of a slice that has a sheet's length, right or not; 0 for any other slice.
abbrev pub counted : List ℕ → ℕ → ℕ
counted s row = cond (eqb (length s) sheet_size && ltb row row_count) (counts (report_words s (row_at row))) 0

-- One number of a date: 1,000 times the year, plus the day; or the refusal's number.
abbrev pub date_number : List ℕ → ℕ
date_number words = cond (eqb (get_or words 0 0) 0) (1000 * get_or words 1 0 + get_or words 2 0) (get_or words 0 0)

-- The count in an answer, or the refusal's number.
abbrev pub tallied : List ℕ → ℕ
tallied words = cond (eqb (get_or words 0 0) 0) (get_or words 1 0) (get_or words 0 0)

-- The exclusive or of an answer's first four numbers.
abbrev pub few_onto : List ℕ → ℕ
few_onto numbers = bit_xor (get_or numbers 0 0) (bit_xor (get_or numbers 1 0) (bit_xor (get_or numbers 2 0) (get_or numbers 3 0)))

-- The exclusive or of a sheet's or season's three counts; and of a season's number of sheets and its three counts in all. These follow the refusal's
-- number, the number of sheets, and three counts of each of 16 sheets.
abbrev pub counts_onto : List ℕ → ℕ
counts_onto words = bit_xor (get_or words 0 0) (bit_xor (get_or words 1 0) (get_or words 2 0))

abbrev pub season_onto : List ℕ → ℕ
season_onto words = bit_xor (get_or words 1 0) (counts_onto (drop (2 + 3 * most_sheets) words))

-- The sum of an answer's first four numbers.
abbrev pub sum_of : List ℕ → ℕ
sum_of words = get_or words 0 0 + get_or words 1 0 + get_or words 2 0 + get_or words 3 0
