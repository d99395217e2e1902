-- How many bytes a number with the byte behind it has at most. Assumes nothing.
use Rattle.std.specs.Prelude.{ℕ}

-- A number of 64 bits has at most 20 digits; one byte stands behind them.
abbrev pub most_numeral : ℕ
most_numeral = 21
