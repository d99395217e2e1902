-- The lines of a listing, as in document 01's example of the program; document 02, Req 05. Bytes are ASCII. Assumes nothing.
-- The manual, docs/INTERFACE.md: "The listing program".
use Rattle.std.specs.Prelude.{ℕ, cond, List, [], ◌∷◌, ◌++◌, eqb}
use Rattle.octets.specs.Ascii.{ascii}
use Rattle.text.specs.Text.{space, line_end, numeral}
use Rattle.sfdu.specs.declared.Kind.TheVariants.{Telemetry}
use Rattle.sfdu.specs.Nesting.{kind_number}

-- The letter of a kind, by its number: T for telemetry, R for RSR.
abbrev pub letter : (kind : ℕ) → ℕ
letter kind = cond (eqb kind (kind_number Telemetry)) 84 82

unfoldable pub heading : List ℕ
heading = ascii "place length kind number\n"

-- 0 120 T 7
unfoldable pub line : (place size kind number : ℕ) → List ℕ
line place size kind number = numeral place space ++ numeral size space ++ (letter kind ∷ space ∷ []) ++ numeral number line_end

-- Numbers with a space between them, and a line end.
unfoldable pub numbers_line : List ℕ → List ℕ
numbers_line [] = []
numbers_line (n ∷ []) = numeral n line_end
numbers_line (n ∷ m ∷ rest) = numeral n space ++ numbers_line (m ∷ rest)

-- 120 0 0
unfoldable pub last_line : (place : ℕ) (why : List ℕ) → List ℕ
last_line place why = numbers_line (place ∷ why)

-- How many bytes the last line has at most: the place and the third number have at most 20 digits, and the stop number, a `u32`, 10.
abbrev pub most_last : ℕ
most_last = 53
