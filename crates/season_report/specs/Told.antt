-- What the program says about the sheets. Assumes nothing.
use Rattle.std.specs.Prelude.{ℕ, ◌≤◌, List, ◌≡◌, length, get_or, Result, Ok, Err}
use Rattle.text.specs.Text.{Puts}
use Rattle.refusals.specs.declared.Refusal.{Refusal}
use Rattle.ledger_season.specs.Season.{season, Answers}
use Rattle.ledger_season.specs.declared.SeasonReport.{SeasonReport}
use Rattle.season_report_text.specs.declared.Files.{Files}
use Rattle.season_report_text.specs.Page.{page}

-- The season is accepted, and the page of its report is written.
pub record Paged (names sheets : List ℕ) (files : Files) (old new : List ℕ) (end : ℕ) : Type 0 where
  pub report : SeasonReport
  pub answers : Answers (season sheets) (Ok report)
  pub puts : Puts old new 0 end (page names sheets files report)
  pub room : end ≤ length new

-- The season is refused with 41, a key in two sheets, and nothing is written.
pub record Unpaged (sheets old new : List ℕ) : Type 0 where
  pub twice : get_or (season sheets) 0 0 ≡ 41
  pub kept : new ≡ old

abbrev pub Tells : (names sheets : List ℕ) → Files → (old new : List ℕ) → Result ℕ Refusal → Type 0
Tells names sheets files old new (Ok end) = Paged names sheets files old new end
Tells names sheets files old new (Err why) = Unpaged sheets old new
