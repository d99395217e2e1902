-- The text of a record's samples (document 02, Req 08): one pair on each line, or raw bytes. Text is ASCII. Assumes nothing.
-- The manual, docs/INTERFACE.md: "Samples".
use Rattle.std.specs.Prelude.{ℕ, suc, ◌-◌, ◌%◌, Bool, cond, List, [], ◌∷◌, ◌++◌, reverse, eqb, ℤ, pos, negsuc, take, drop}
use Rattle.octets.specs.Octets.{bytes_of}
use Rattle.text.specs.Text.{space, line_end, numeral}
use Rattle.sfdu_samples.specs.Bits.{bits_of}

-- ---- a number

-- the byte '-'
abbrev pub minus : ℕ
minus = 45

-- A number in decimal, and the byte `after` behind it. (`negsuc n` is -n - 1.)
unfoldable pub signed_numeral : ℤ → (after : ℕ) → List ℕ
signed_numeral (pos n) after = numeral n after
signed_numeral (negsuc n) after = minus ∷ numeral (suc n) after

-- A number as raw bytes: its two's complement in four bytes, lowest first.
unfoldable pub raw_bytes : ℤ → List ℕ
raw_bytes z = reverse (bytes_of 4 (bits_of z))

-- The byte behind number i of a list: a space behind the first of a pair, a line end behind the second.
unfoldable pub ending_at : ℕ → ℕ
ending_at i = cond (eqb (i % 2) 0) space line_end

-- The text of number i of a list.
unfoldable pub number_text : (raw : Bool) → (i : ℕ) → ℤ → List ℕ
number_text raw i z = cond raw (raw_bytes z) (signed_numeral z (ending_at i))

-- ---- a list

-- The text of numbers, of which the first is number i of its list.
unfoldable pub text_at : (raw : Bool) → (i : ℕ) → List ℤ → List ℕ
text_at raw i [] = []
text_at raw i (z ∷ zs) = number_text raw i z ++ text_at raw (suc i) zs

-- The text of a list. For 201, 1, -199 and 1 it is the lines `201 1` and `-199 1`.
unfoldable pub samples_text : (raw : Bool) → List ℤ → List ℕ
samples_text raw zs = text_at raw 0 zs

-- The text of a part of a list: the numbers from index `from` to below `upto`.
unfoldable pub part_text : (raw : Bool) → List ℤ → (from upto : ℕ) → List ℕ
part_text raw zs from upto = text_at raw from (take (upto - from) (drop from zs))
