-- Document 02, Req 06: the layout of an answer's numbers in the slice that a C program lends for them. Assumes nothing.
-- The manual, docs/INTERFACE.md: "Calls from C".
use Rattle.std.specs.Prelude.{ℕ, List, [], ◌∷◌, ◌++◌}
use Rattle.octets.specs.Octets.{bytes_of}

-- The length of the answer's slice, and of each number in it.
abbrev pub answer_size : ℕ
answer_size = 256

abbrev pub number_size : ℕ
number_size = 8

-- The numbers of an answer, big-endian, one after the other.
unfoldable pub answer_bytes : List ℕ → List ℕ
answer_bytes [] = []
answer_bytes (n ∷ ns) = bytes_of number_size n ++ answer_bytes ns
