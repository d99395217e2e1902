-- The season's report for the bytes of its sheets (document 02, request 13). Assumes nothing.
-- The manual, docs/INTERFACE.md: "The season's report".
use Rattle.std.specs.Prelude.{ℕ, ◌*◌, ◌/◌, ◌%◌, Bool, not, ◌||◌, List, [], ◌∷◌, ◌++◌, ◌≡◌, eqb, ltb, length, replicate}
use Rattle.std.specs.Prelude.{Result, Ok, Err, Option, Some, None}
use Rattle.refusals.specs.declared.Refusal.{Refusal}
use Rattle.refusals.specs.Judge.{Rule, ◌when◌, judge}
use Rattle.refusals.specs.Table.{number_of}
use Rattle.octets.specs.Octets.{part, all}
use Rattle.ledger_model.specs.Book.{Book}
use Rattle.ledger_sheet.specs.Sheet.{sheet_size, right}
use Rattle.octets.specs.Lists.{table}
use Rattle.ledger_layout.specs.Layout.{book_of}
use Rattle.ledger_season.specs.Report.{most_sheets, report, key_in_two}
use Rattle.ledger_season.specs.declared.SheetCounts.{SheetCounts}
use Rattle.ledger_season.specs.declared.SeasonGap.{SeasonGap}
use Rattle.ledger_season.specs.declared.SeasonReport.{SeasonReport}

-- ---- the sheets in a slice

-- Sheet k of a slice, how many sheets there are, and the books that they hold.
abbrev pub sheet_at : List ℕ → ℕ → List ℕ
sheet_at s k = part s (sheet_size * k) sheet_size

abbrev pub sheet_count : List ℕ → ℕ
sheet_count s = length s / sheet_size

unfoldable pub books_to : List ℕ → ℕ → List Book
books_to s n = table n (λ k. book_of (sheet_at s k))

abbrev pub books : List ℕ → List Book
books s = books_to s (sheet_count s)

-- ---- the refusals of a season, in the request's order

unfoldable pub right_to : List ℕ → ℕ → Bool
right_to s n = all n (λ k. right (sheet_at s k))

abbrev pub season_rules : List ℕ → List (Rule ℕ)
season_rules s =
    (42 when (not (eqb (length s % sheet_size) 0) || ltb most_sheets (sheet_count s)))
    ∷ (20 when not (right_to s (sheet_count s)))
    ∷ (41 when key_in_two (books s))
    ∷ []

-- The words of the answer: 0 and the report; or the refusal's number and a report on no sheet, which is zeros and no gap.
unfoldable pub season : List ℕ → List ℕ
season s = judge (λ number. number ∷ report []) (season_rules s) (0 ∷ report (books s))

-- ---- the words of each case of the answer

abbrev pub answer_number : Result SeasonReport Refusal → ℕ
answer_number (Ok report) = 0
answer_number (Err r) = number_of r

abbrev pub counts_words : SheetCounts → List ℕ
counts_words c = c.ticked ∷ c.missing ∷ c.per_million ∷ []

unfoldable pub sheets_words : List SheetCounts → List ℕ
sheets_words [] = []
sheets_words (c ∷ cs) = counts_words c ++ sheets_words cs

-- The words of the gap; if there is none, `further`. An answer has no gap further on, so no gap adds no word.
abbrev pub or_further : Option SeasonGap → List ℕ → List ℕ
or_further None further = further
or_further (Some g) further = g.sheet ∷ g.row ∷ g.number ∷ []

-- The report of a refused season is that of no sheet: zeros, and no gap.
abbrev pub no_counts : SheetCounts
no_counts = record { ticked = 0; missing = 0; per_million = 0 }

abbrev pub no_report : SeasonReport
no_report = record { count = 0; sheets = replicate most_sheets no_counts; total = no_counts; gap = None }

-- The report that an answer gives.
abbrev pub report_of : Result SeasonReport Refusal → SeasonReport
report_of (Ok report) = report
report_of (Err r) = no_report

abbrev pub report_words : Result SeasonReport Refusal → List ℕ
report_words a =
    let r = report_of a in
    answer_number a ∷ r.count ∷ sheets_words r.sheets ++ counts_words r.total ++ or_further r.gap []

-- The answer has these words, and 16 entries for sheets, as its type says.
abbrev pub Answers : List ℕ → Result SeasonReport Refusal → Type 0
Answers words a = ◌≡◌ {A = ℕ × List ℕ} (length (report_of a).sheets, report_words a) (most_sheets, words)

-- Different answers have different words.
abbrev pub DifferentSeasons : Type 0
DifferentSeasons = (words : List ℕ) (a b : Result SeasonReport Refusal) → Answers words a → Answers words b → a ≡ b
