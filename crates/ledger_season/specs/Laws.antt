-- What holds of every season's answer. Assumes nothing.
use Rattle.std.specs.Prelude.{ℕ, zero, suc, ◌+◌, ◌<◌, List, [], ◌∷◌, ◌↔◌, ◌≡◌, length, get_or, Result, IsOk, None}
use Rattle.refusals.specs.declared.Refusal.{Refusal}
use Rattle.ledger_model.specs.Step.{Ask, RowReport}
use Rattle.ledger_sheet.specs.Sheet.{sheet_size, row_count}
use Rattle.ledger_layout.specs.Layout.{call, on_sheet}
use Rattle.ledger_season.specs.Season.{sheet_at, report_of, season, Answers}
use Rattle.ledger_season.specs.declared.SheetCounts.{SheetCounts}
use Rattle.ledger_season.specs.declared.SeasonReport.{SeasonReport}

-- The sum of a number over the sheets of an answer.
unfoldable pub over_sheets : (SheetCounts → ℕ) → List SheetCounts → ℕ
over_sheets number [] = 0
over_sheets number (c ∷ cs) = number c + over_sheets number cs

-- The sum of word k of the row reports on a sheet's first n rows. Word 1 is the ticked count, word 2 the missing count. A free row's report is
-- refused and has no such word.
unfoldable pub over_rows : List ℕ → (k n : ℕ) → ℕ
over_rows s k zero = 0
over_rows s k (suc n) = over_rows s k n + get_or (on_sheet (call (Ask (RowReport n))) s).0 k 0

pub record Laws (s : List ℕ) (a : Result SeasonReport Refusal) : Type 0 where
  -- The numbers in all are the sums over the sheets.
  pub ticked_in_all : (report_of a).total.ticked ≡ over_sheets (λ c. c.ticked) (report_of a).sheets
  pub missing-in-all : (report_of a).total.missing ≡ over_sheets (λ c. c.missing) (report_of a).sheets
  -- A gap is reported exactly if something is missing.
  pub gap_exactly : ((report_of a).gap ≡ None) ↔ ((report_of a).total.missing ≡ 0)
  -- The numbers of a season of one sheet are the sums of its row reports.
  pub one_ticked : length s ≡ sheet_size → IsOk a → (report_of a).total.ticked ≡ over_rows s 1 row_count
  pub one_missing : length s ≡ sheet_size → IsOk a → (report_of a).total.missing ≡ over_rows s 2 row_count

-- This holds of every slice, and of every answer that `season` may give for it.
abbrev pub EverySeason : Type 0
EverySeason = (s : List ℕ) (a : Result SeasonReport Refusal) → Answers (season s) a → Laws s a

-- The season of sheet k alone is accepted, and its numbers in all are the numbers of sheet k in the answer a.
pub record Alone (a : Result SeasonReport Refusal) (k : ℕ) (alone : Result SeasonReport Refusal) : Type 0 where
  pub accepted : IsOk alone
  pub numbers : (outside : SheetCounts) → get_or (report_of a).sheets k outside ≡ (report_of alone).total

-- This holds of every sheet of an accepted season.
abbrev pub EachAlone : Type 0
EachAlone =
    (s : List ℕ) (a : Result SeasonReport Refusal) → Answers (season s) a → IsOk a → (k : ℕ) → k < (report_of a).count
    → (alone : Result SeasonReport Refusal) → Answers (season (sheet_at s k)) alone → Alone a k alone
