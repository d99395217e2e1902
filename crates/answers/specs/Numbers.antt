-- Document 02, Req 06: the numbers of an answer. First comes the refusal's number or 0, then the answer's numbers in the order of the papers, with
-- those that Req 01 adds at their end. Each number of a none is all ones; Px/No is in two's complement; zeros fill the rest. Assumes nothing.
-- The manual, docs/INTERFACE.md: "Calls from C".
use Rattle.std.specs.Prelude.{ℕ, ◌-◌, Bool, cond, List, [], ◌∷◌, ◌++◌, map, eqb, ℤ, pos, negsuc, length, get_or, replicate}
use Rattle.sfdu_headers.specs.Words.{Word, number, signed, none}

-- How many numbers an answer has.
abbrev pub number_count : ℕ
number_count = 32

-- The number whose 64 bits are all ones.
abbrev pub all_ones : ℕ
all_ones = 18446744073709551615

-- A negative number has the inverted bits of its distance from -1.
abbrev pub twos_complement : ℤ → ℕ
twos_complement (pos n) = n
twos_complement (negsuc n) = all_ones - n

abbrev pub value_of : Word → ℕ
value_of (number n) = n
value_of (signed z) = twos_complement z
value_of none = all_ones

-- The numbers of an answer's words, filled with zeros to n numbers; and to the 32 numbers of an exported answer.
abbrev pub numbers_in : ℕ → List Word → List ℕ
numbers_in size words = map value_of words ++ replicate (size - length words) 0

abbrev pub numbers_of : List Word → List ℕ
numbers_of words = numbers_in number_count words

-- The words of an answer without a none.
abbrev pub plain : List ℕ → List Word
plain words = map number words

-- The words of an answer that has n numbers if it is accepted. The ledger's words leave a none out; here it fills the last of the n.
abbrev pub with_none : ℕ → List ℕ → List Word
with_none size words = plain words ++ cond (eqb (get_or words 0 0) 0) (replicate (size - length words) none) []

-- The words of a call that is never refused: 0, and what it answers; a number; a test, 1 where it holds; a part of a lent slice, by the place
-- where it starts and its length.
abbrev pub given : List ℕ → List Word
given numbers = plain (0 ∷ numbers)

abbrev pub counted : ℕ → List Word
counted n = given (n ∷ [])

abbrev pub flagged : Bool → List Word
flagged holds = given (cond holds 1 0 ∷ [])

abbrev pub placed : (start : ℕ) (part : List ℕ) → List Word
placed start part = given (start ∷ length part ∷ [])
