-- Request 13's identity for the bytes of sheets. It uses only what the calls' contracts promise. Assumes nothing.
-- The manual, docs/INTERFACE.md: "The season's report".
use Rattle.std.specs.Prelude.{ℕ, ◌+◌, ◌≤◌, false, List, [], ◌∷◌, ◌++◌, map, ◌≡◌, length, Result, IsOk}
use Rattle.refusals.specs.declared.Refusal.{Refusal}
use Rattle.ledger_model.specs.Step.{Entry, book_after}
use Rattle.ledger_model.specs.Chain.{Chain}
use Rattle.ledger_model.specs.Tally.{saved_ticks, saved_unticks}
use Rattle.ledger.specs.Demand3.{MadeFresh, Promised}
use Rattle.ledger_season.specs.Report.{most_sheets, key_in_two}
use Rattle.ledger_season.specs.Season.{report_of, season, Answers}
use Rattle.ledger_season.specs.declared.SeasonReport.{SeasonReport}

-- Sheets, and how each was made: by calls with this log, one after the other, on a sheet that `fresh` made.
pub data Grown : (logs : List (List Entry)) (sheets : List (List ℕ)) → Type 0 where
  no-sheet : Grown [] []
  and_sheet : (s : List ℕ) {start last : List ℕ} {log : List Entry} {logs : List (List Entry)} {sheets : List (List ℕ)}
      → MadeFresh s start → Chain Promised start log last → Grown logs sheets → Grown (log ∷ logs) (last ∷ sheets)

-- The sheets one after another in one slice.
unfoldable pub laid_in_one : List (List ℕ) → List ℕ
laid_in_one [] = []
laid_in_one (sheet ∷ sheets) = sheet ++ laid_in_one sheets

-- The sum of a count over all logs.
unfoldable pub over_logs : (List Entry → ℕ) → List (List Entry) → ℕ
over_logs count [] = 0
over_logs count (log ∷ logs) = count log + over_logs count logs

-- What holds of the season's answer a for these sheets.
pub record Identity (logs : List (List Entry)) (sheets : List (List ℕ)) (a : Result SeasonReport Refusal) : Type 0 where
  -- The season is accepted if there are at most 16 sheets and no key is in two of them. No sheet is refused as not right.
  pub accepted : length sheets ≤ most_sheets → key_in_two (map book_after logs) ≡ false → IsOk a
  -- The ticked positions in all are the ticks less the unticks. Only accepted marks of saved transactions count, on rows that are not struck later.
  pub balanced : IsOk a → (report_of a).total.ticked + over_logs saved_unticks logs ≡ over_logs saved_ticks logs

-- This holds of every answer that `season` may give for the sheets in one slice.
abbrev pub EveryGrown : Type 0
EveryGrown =
    (logs : List (List Entry)) (sheets : List (List ℕ)) → Grown logs sheets → (a : Result SeasonReport Refusal) → Answers (season (laid_in_one sheets)) a
    → Identity logs sheets a
