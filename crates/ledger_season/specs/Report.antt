-- The season's report for the books of its sheets (document 02, request 13), from the model's counts. Assumes nothing.
-- The manual, docs/INTERFACE.md: "The season's report".
use Rattle.std.specs.Prelude.{ℕ, zero, suc, ◌+◌, ◌*◌, ◌/◌, Bool, false, cond, ◌||◌, List, [], ◌∷◌, ◌++◌, eqb, length}
use Rattle.ledger_model.specs.Positions.{size, missing}
use Rattle.ledger_model.specs.Book.{Place, free, row, Book, ticks_of, has_key}
use Rattle.ledger_model.specs.Counts.{first_gap_from}
use Rattle.ledger_model.specs.Tally.{ticked}

-- How many sheets a season has at most.
abbrev pub most_sheets : ℕ
most_sheets = 16

-- ---- three numbers: how many are ticked, how many are missing, and how many are missing per million

-- How many positions are missing in all places. The model's `ticked` counts those that are ticked.
unfoldable pub missed : List Place → ℕ
missed [] = 0
missed (p ∷ ps) = size (missing (ticks_of p)) + missed ps

-- How many of a million ticked and missing positions are missing, rounded down; 0 if there are none.
unfoldable pub per_million : (ticked missing : ℕ) → ℕ
per_million t m = cond (eqb (t + m) 0) 0 (m * 1000000 / (t + m))

unfoldable pub three : (ticked missing : ℕ) → List ℕ
three t m = t ∷ m ∷ per_million t m ∷ []

-- The counts of one sheet.
abbrev pub ticked_in : Book → ℕ
ticked_in b = ticked b.places

abbrev pub missing_in : Book → ℕ
missing_in b = missed b.places

-- The three numbers of each of so many sheets; zeros if there are fewer books.
unfoldable pub each_sheet : (sheets : ℕ) → List Book → List ℕ
each_sheet zero bs = []
each_sheet (suc n) [] = 0 ∷ 0 ∷ 0 ∷ each_sheet n []
each_sheet (suc n) (b ∷ bs) = three (ticked_in b) (missing_in b) ++ each_sheet n bs

-- The sum of a count over all sheets.
unfoldable pub in_all : (Book → ℕ) → List Book → ℕ
in_all count [] = 0
in_all count (b ∷ bs) = count b + in_all count bs

-- ---- the first gap of the season: the sheet's number, which counts from 0, the row, and the missing number

-- The first gap of a sheet, with the sheet's number; if the sheet has none, the first gap of the sheets after it.
abbrev pub gap_in : (sheet : ℕ) (gap further : List ℕ) → List ℕ
gap_in sheet (number ∷ r ∷ rest) further = sheet ∷ r ∷ number ∷ []
gap_in sheet (number ∷ []) further = further
gap_in sheet [] further = further

-- The first gap of the sheets from sheet k on.
unfoldable pub season_gap_from : (k : ℕ) → List Book → List ℕ
season_gap_from k [] = []
season_gap_from k (b ∷ bs) = gap_in k (first_gap_from 0 b.places) (season_gap_from (suc k) bs)

-- ---- the report: how many sheets, the three numbers of each, the three numbers in all, the first gap

unfoldable pub report : List Book → List ℕ
report bs = length bs ∷ each_sheet most_sheets bs ++ three (in_all ticked_in bs) (in_all missing_in bs) ++ season_gap_from 0 bs

-- ---- whether a key is in two sheets

-- Whether one of the books has the key.
unfoldable pub key_in_one : (key : ℕ) → List Book → Bool
key_in_one key [] = false
key_in_one key (b ∷ bs) = has_key key b.places || key_in_one key bs

-- Whether one of the books has a key of these places.
unfoldable pub any_in_one : List Place → List Book → Bool
any_in_one [] bs = false
any_in_one (free ∷ ps) bs = any_in_one ps bs
any_in_one (row key first ticks ∷ ps) bs = key_in_one key bs || any_in_one ps bs

-- Whether a later book has a key of an earlier one.
unfoldable pub key_in_two : List Book → Bool
key_in_two [] = false
key_in_two (b ∷ bs) = any_in_one b.places bs || key_in_two bs
