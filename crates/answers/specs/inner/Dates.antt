-- The words of a day count's answer. Assumes nothing.
use Rattle.std.specs.Prelude.{ℕ, List, [], ◌∷◌, Option, Some, None}
use Rattle.sfdu_headers.specs.Words.{Word, number, none}

abbrev pub count_words : Option ℕ → List Word
count_words (Some n) = number 0 ∷ number n ∷ []
count_words None = number 0 ∷ none ∷ []
