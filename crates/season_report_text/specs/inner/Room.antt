-- The room that a page needs, and what inner functions promise. Assumes nothing.
use Rattle.std.specs.Prelude.{ℕ, ◌+◌, ◌*◌, ◌≤◌, List, ◌≡◌, length, get_or}
use Rattle.text.specs.Text.{Puts}
use Rattle.ledger_sheet.specs.Sheet.{sheet_size}
use Rattle.ledger_season.specs.Report.{most_sheets}
use Rattle.ledger_season.specs.declared.SeasonReport.{SeasonReport}
use Rattle.season_report_text.specs.declared.Files.{Files}
use Rattle.season_report_text.specs.declared.Laid.{Laid}
use Rattle.season_report_text.specs.Page.{name_size, lines_to, rows_to}

-- How many bytes each part has at most. A number with the byte behind it has at most 21.
abbrev pub most_counts : ℕ
most_counts = 64

abbrev pub most_rate : ℕ
most_rate = 31

abbrev pub most_numbers : ℕ
most_numbers = 95

abbrev pub most_line : ℕ
most_line = name_size + most_numbers

abbrev pub most_total : ℕ
most_total = 100

abbrev pub most_place : ℕ
most_place = name_size + 56

abbrev pub most_gap : ℕ
most_gap = name_size + 67

-- The whole page: 71,357.
abbrev pub most_page : ℕ
most_page = 38 + most_line * most_sheets + most_total + most_gap

-- There are at most 16 files, and each name fits its slot.
pub record Named (names : List ℕ) (files : Files) : Type 0 where
  pub few : files.count ≤ most_sheets
  pub slots : length names ≡ name_size * most_sheets
  pub all : length files.sizes ≡ most_sheets
  pub short : (i : ℕ) → get_or files.sizes i 0 ≤ name_size

-- What `lay_out` requires.
pub record Ready (out names sheets : List ℕ) (files : Files) : Type 0 where
  pub room : most_page ≤ length out
  pub named : Named names files
  pub whole : length sheets ≡ sheet_size * files.count

-- The lines of the sheets are written, and their rows are added up.
pub record Lines (old new : List ℕ) (at : ℕ) (names sheets : List ℕ) (files : Files) (r : SeasonReport) (laid : Laid) : Type 0 where
  pub puts : Puts old new at laid.end (lines_to names sheets files r files.count)
  pub rows_are : laid.rows ≡ rows_to sheets files.count
  pub short : laid.end ≤ at + most_line * most_sheets
