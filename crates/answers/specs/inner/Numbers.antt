-- The numbers of an answer as inner functions give them. Assumes nothing.
use Rattle.std.specs.Prelude.{ℕ, ◌-◌, ◌^◌, ◌<◌, List, ◌++◌, ◌≡◌, get_or, replicate, Option, Some, None}
use Rattle.sfdu_headers.specs.Words.{Word}
use Rattle.answers.specs.Numbers.{number_count, all_ones, numbers_of}

-- The number of a sample count; a none if the count is unknown.
abbrev pub count_number : Option ℕ → ℕ
count_number (Some n) = n
count_number None = all_ones

-- A list is the numbers of these words, and the first number, which a call returns, fits 32 bits.
abbrev pub Numbers : List ℕ → List Word → Type 0
Numbers numbers words = (numbers ≡ numbers_of words) × (get_or numbers 0 0 < 2 ^ 32)

-- The same for a few numbers, with only zeros behind them.
abbrev pub few_count : ℕ
few_count = 4

pub record Few (numbers : List ℕ) (words : List Word) : Type 0 where
  pub same : numbers ++ replicate (number_count - few_count) 0 ≡ numbers_of words
  pub small : get_or numbers 0 0 < 2 ^ 32
