-- How many bytes a line has at most. Assumes nothing.
use Rattle.std.specs.Prelude.{ℕ}

-- The place has at most 20 digits, the length 5, and the record number 10.
abbrev pub most_line : ℕ
most_line = 40

-- The room that the code needs for a line: it writes the record number, which begins at most 29 bytes on, as any number of 64 bits.
abbrev pub line_room : ℕ
line_room = 50
