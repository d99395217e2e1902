-- The words of a step for C. Assumes nothing.
-- The manual, docs/INTERFACE.md: "Calls from C".
use Rattle.std.specs.Prelude.{ℕ, ◌-◌, List, [], ◌∷◌, ◌++◌, length, replicate}
use Rattle.sfdu_headers.specs.Words.{Word, number, none}
use Rattle.answers.specs.Numbers.{plain}

-- How many words the answer of read one has, with the 0.
abbrev pub read_count : ℕ
read_count = 7

-- The library's words begin with the place of the cursor. Here it comes after those of the record or the refusal, so that the first word is the
-- refusal's number or 0, as in every answer. At the stream's end there is no record: each of its words is a none.
abbrev pub stepped : List ℕ → List Word
stepped [] = []
stepped (place ∷ []) = number 0 ∷ replicate (read_count - 1) none ++ number place ∷ []
stepped (place ∷ n ∷ words) = plain (n ∷ words) ++ replicate (read_count - 1 - length words) (number 0) ++ number place ∷ []
