-- How many bytes the text of a number has at most. Assumes nothing.
use Rattle.std.specs.Prelude.{ℕ}

-- A sign, and the longest unsigned number with the byte behind it.
abbrev pub most_number : ℕ
most_number = 22
