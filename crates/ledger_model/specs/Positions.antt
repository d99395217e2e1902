-- Positions of a row: the position of a number, and sets of positions. Assumes nothing.
-- The manual, docs/INTERFACE.md: "Calls on the ledger".
use Rattle.std.specs.Prelude.{ℕ, zero, suc, ◌+◌, ◌-◌, ◌%◌, Bool, true, false, cond, not, ◌&&◌, ◌||◌, List, [], ◌∷◌, replicate, nat_lt, slice_index_or}
use Rattle.std.specs.Bool.{beq}
use Rattle.std.proofs.Math.Option.{Option, none, some, map}
use Rattle.keys.specs.Numbers.{modulus, is_number}

-- How many positions a row has.
abbrev pub row_length : ℕ
row_length = 1024

-- ---- numbers

-- The position of number n: how far it is past the first number, modulo 2^32, or modulo 65,536 for RSR (request 03). A number that no record of the
-- stream can have is outside the row.
unfoldable pub position : (key first n : ℕ) → ℕ
position key first n = cond (is_number key n) ((n + (modulus key - first % modulus key)) % modulus key) row_length

-- The number at a position.
unfoldable pub position_number : (key first i : ℕ) → ℕ
position_number key first i = (first + i) % modulus key

-- The positions of a row are those below 1,024.
abbrev pub in_row : ℕ → Bool
in_row i = nat_lt i row_length

-- ---- sets

-- A set of positions: flag i says whether position i is in the set, which means ticked.
abbrev pub Positions : Type 0
Positions = List Bool

unfoldable pub no_ticks : Positions
no_ticks = replicate row_length false

abbrev pub has : Positions → ℕ → Bool
has s i = slice_index_or s i false

-- Whether two sets are the same.
unfoldable pub same : Positions → Positions → Bool
same [] [] = true
same [] (y ∷ t) = false
same (x ∷ s) [] = false
same (x ∷ s) (y ∷ t) = beq x y && same s t

-- The positions that are in the first set but not in the second.
unfoldable pub minus : Positions → Positions → Positions
minus [] t = []
minus (x ∷ s) [] = x ∷ s
minus (x ∷ s) (y ∷ t) = (x && not y) ∷ minus s t

-- How many positions are in the set.
unfoldable pub size : Positions → ℕ
size [] = 0
size (true ∷ s) = suc (size s)
size (false ∷ s) = size s

unfoldable pub any_ticked : Positions → Bool
any_ticked [] = false
any_ticked (x ∷ s) = x || any_ticked s

-- The missing positions: not ticked, with a ticked position above.
unfoldable pub missing : Positions → Positions
missing [] = []
missing (x ∷ s) = (not x && any_ticked s) ∷ missing s

-- The lowest position in the set, if there is one.
unfoldable pub least : Positions → Option ℕ
least [] = none
least (true ∷ s) = some zero
least (false ∷ s) = map suc (least s)
