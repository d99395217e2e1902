-- The refusals of header words that a caller lends. Assumes nothing.
use Rattle.std.specs.Prelude.{ℕ, not, List, ◌∷◌, eqb, length}
use Rattle.refusals.specs.Judge.{Rule, ◌when◌}
use Rattle.idr.specs.Words.{header_count}
use Rattle.idr.specs.Rules.{word_rules}

-- 50 if the caller does not lend 28 words, then the rules of header words.
abbrev pub lent_rules : List ℕ → List (Rule ℕ)
lent_rules w = (50 when not (eqb (length w) header_count)) ∷ word_rules w
