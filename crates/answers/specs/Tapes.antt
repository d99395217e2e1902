-- A medium band record has more fields than an answer has numbers, so two calls give them. Assumes nothing.
-- The manual, docs/INTERFACE.md: "Calls from C".
use Rattle.std.specs.Prelude.{ℕ, List, ◌++◌, take, drop}
use Rattle.sfdu_headers.specs.Words.{Word}
use Rattle.answers.specs.Numbers.{with_none}

-- How many numbers each of the two has, with the 0. If the time tag is not valid, each of the others is a none.
abbrev pub origin_count : ℕ
origin_count = 20

abbrev pub reduction_count : ℕ
reduction_count = 16

-- The library's words in two parts, each after the 0: the record's source, its time tag and the recorder; and how it was reduced.
abbrev pub origin : List ℕ → List Word
origin words = with_none origin_count (take origin_count words)

abbrev pub reduction : List ℕ → List Word
reduction words = with_none reduction_count (take 1 words ++ drop origin_count words)
