-- Where a refusal points. proofs/Within.antt proves it. Assumes nothing.
-- The manual, docs/INTERFACE.md: "One record".
use Rattle.std.specs.Prelude.{ℕ, ◌≤◌, List, [], ◌∷◌, ◌≡◌, length}
use Rattle.sfdu.specs.Read.{read_one}

-- A refusal's second number is a place in the slice, or its end.
abbrev pub SecondInside : Type 0
SecondInside = (s : List ℕ) (n m : ℕ) → read_one s ≡ n ∷ m ∷ [] → m ≤ length s
