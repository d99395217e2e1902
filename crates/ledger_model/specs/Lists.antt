-- Part of a list. Assumes nothing.
use Rattle.std.specs.Prelude.{Bool, cond, List, [], ◌∷◌}

-- The elements for which f is true, in their order.
unfoldable pub filtered : {A : Type 0} → (A → Bool) → List A → List A
filtered f [] = []
filtered f (x ∷ xs) = cond (f x) (x ∷ filtered f xs) (filtered f xs)
