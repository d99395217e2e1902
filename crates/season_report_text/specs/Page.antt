-- The text of a season's gap report (document 02, request 13). Bytes are ASCII. Assumes nothing.
-- The manual, docs/INTERFACE.md: "The season's report".
use Rattle.std.specs.Prelude.{ℕ, zero, suc, ◌+◌, ◌*◌, Bool, false, cond, List, [], ◌∷◌, ◌++◌, get_or, Option, Some, None}
use Rattle.octets.specs.Octets.{part}
use Rattle.octets.specs.Ascii.{ascii}
use Rattle.text.specs.Text.{space, line_end, numeral}
use Rattle.ledger_sheet.specs.Sheet.{used}
use Rattle.ledger_season.specs.Season.{sheet_at}
use Rattle.ledger_season.specs.declared.SheetCounts.{SheetCounts}
use Rattle.ledger_season.specs.declared.SeasonGap.{SeasonGap}
use Rattle.ledger_season.specs.declared.SeasonReport.{SeasonReport}
use Rattle.season_report_text.specs.declared.Files.{Files}

unfoldable pub heading : List ℕ
heading = ascii "sheet rows ticked missing per-million\n"

-- ---- the numbers of a line

-- How many rows are used, how many positions are ticked, and how many are missing.
unfoldable pub counts : (rows : ℕ) → SheetCounts → List ℕ
counts rows c = (space ∷ []) ++ numeral rows space ++ numeral c.ticked space ++ numeral c.missing space

abbrev pub converted_text : List ℕ
converted_text = ascii "converted\n"

-- How many are missing per million, and whether the sheet was converted.
unfoldable pub rate : (per_million : ℕ) (converted : Bool) → List ℕ
rate per_million converted = cond converted (numeral per_million space ++ converted_text) (numeral per_million line_end)

--  3 130 3 22556 converted
unfoldable pub numbers : (rows : ℕ) → SheetCounts → (converted : Bool) → List ℕ
numbers rows c converted = counts rows c ++ rate c.per_million converted

-- ---- a line for each sheet, by the name of its file

-- The length of a name's slot.
abbrev pub name_size : ℕ
name_size = 4096

-- The name of file i, in its slot; empty if there is no such file.
unfoldable pub name_of : (names : List ℕ) → Files → ℕ → List ℕ
name_of names files i = part names (name_size * i) (get_or files.sizes i 0)

-- How many rows of sheet i are used.
abbrev pub rows_of : (sheets : List ℕ) → ℕ → ℕ
rows_of sheets i = used (sheet_at sheets i)

-- The counts of sheet i.
abbrev pub counts_of : SeasonReport → ℕ → SheetCounts
counts_of r i = get_or r.sheets i (record { ticked = 0; missing = 0; per_million = 0 })

-- may 3 130 3 22556 converted
unfoldable pub line : (names sheets : List ℕ) → Files → SeasonReport → ℕ → List ℕ
line names sheets files r i = name_of names files i ++ numbers (rows_of sheets i) (counts_of r i) (get_or files.converted i false)

-- The lines of the first n sheets.
unfoldable pub lines_to : (names sheets : List ℕ) → Files → SeasonReport → ℕ → List ℕ
lines_to names sheets files r zero = []
lines_to names sheets files r (suc n) = lines_to names sheets files r n ++ line names sheets files r n

-- ---- the total

-- How many rows of the first n sheets are used.
unfoldable pub rows_to : (sheets : List ℕ) → ℕ → ℕ
rows_to sheets zero = 0
rows_to sheets (suc n) = rows_to sheets n + rows_of sheets n

abbrev pub total_text : List ℕ
total_text = ascii "total"

-- total 7 388 4 10204
unfoldable pub total_line : (rows : ℕ) → SheetCounts → List ℕ
total_line rows total = total_text ++ numbers rows total false

-- ---- the first gap

abbrev pub gap_text : List ℕ
gap_text = ascii "first gap: "

abbrev pub none_text : List ℕ
none_text = ascii "none\n"

-- ,
abbrev pub comma : ℕ
comma = 44

abbrev pub row_text : List ℕ
row_text = ascii ", row "

abbrev pub number_text : List ℕ
number_text = ascii " number "

-- may, row 2, number 7
unfoldable pub found : (name : List ℕ) (row number : ℕ) → List ℕ
found name row number = name ++ row_text ++ numeral row comma ++ number_text ++ numeral number line_end

-- The first gap, with the sheet's file name; or none.
unfoldable pub gap_place : (names : List ℕ) → Files → Option SeasonGap → List ℕ
gap_place names files None = none_text
gap_place names files (Some gap) = found (name_of names files gap.sheet) gap.row gap.number

-- first gap: may, row 2, number 7
unfoldable pub gap_line : (names : List ℕ) → Files → Option SeasonGap → List ℕ
gap_line names files gap = gap_text ++ gap_place names files gap

-- ---- the page: the heading, a line for each sheet, the total, the gap

unfoldable pub page : (names sheets : List ℕ) → Files → SeasonReport → List ℕ
page names sheets files r =
    heading
    ++ lines_to names sheets files r files.count
    ++ total_line (rows_to sheets files.count) r.total
    ++ gap_line names files r.gap
