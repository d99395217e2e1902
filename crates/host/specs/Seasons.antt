-- The words of a season for C (document 02, Req 13): the library's words without those of each sheet. Assumes nothing.
use Rattle.std.specs.Prelude.{ℕ, ◌+◌, ◌*◌, cond, List, ◌++◌, eqb, get_or, take, drop}
use Rattle.ledger_season.specs.Report.{most_sheets}

-- Takes out the three numbers of each of 16 sheets, which follow the refusal's number and the number of sheets. A refusal's number stays alone.
unfoldable pub in_all_of : List ℕ → List ℕ
in_all_of words = cond (eqb (get_or words 0 0) 0) (take 2 words ++ drop (2 + 3 * most_sheets) words) (take 1 words)
