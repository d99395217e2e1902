-- Lists computed by a function, and the bytes of a list of things. Assumes nothing.
use Rattle.std.specs.Prelude.{ℕ, zero, suc, List, [], ◌∷◌, ◌++◌}

-- f 0, f 1, .. f (n - 1)
unfoldable pub table : {A : Type 0} → ℕ → (ℕ → A) → List A
table zero f = []
table (suc n) f = f 0 ∷ table n (λ i. f (suc i))

-- The bytes of each element, one after the other.
unfoldable pub laid : {A : Type 0} → (A → List ℕ) → List A → List ℕ
laid bytes [] = []
laid bytes (x ∷ xs) = bytes x ++ laid bytes xs
