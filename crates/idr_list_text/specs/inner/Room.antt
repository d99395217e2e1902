-- How many bytes each part of a line has at most. Assumes nothing.
use Rattle.std.specs.Prelude.{ℕ}

-- The most bytes of each part, counted in numbers. A line has nine numbers and the clock.
abbrev pub most_why : ℕ
most_why = 28

abbrev pub most_origin : ℕ
most_origin = 105

abbrev pub most_time : ℕ
most_time = 37

abbrev pub most_reduction : ℕ
most_reduction = 63
