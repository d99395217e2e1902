-- The words of a season in all, as inner functions give them. Assumes nothing.
use Rattle.std.specs.Prelude.{ℕ, List, [], ◌∷◌, ◌++◌, Result}
use Rattle.refusals.specs.declared.Refusal.{Refusal}
use Rattle.refusals.specs.Words.{answer_words}
use Rattle.ledger_season.specs.declared.SeasonReport.{SeasonReport}
use Rattle.ledger_season.specs.Season.{counts_words, or_further}

abbrev pub in_all_values : SeasonReport → List ℕ
in_all_values r = r.count ∷ counts_words r.total ++ or_further r.gap []

abbrev pub in_all_words : Result SeasonReport Refusal → List ℕ
in_all_words answer = answer_words in_all_values answer
