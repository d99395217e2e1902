-- The words of an accepted call that gives no values. Assumes nothing.
use Rattle.std.specs.Prelude.{ℕ, List, [], ◌∷◌}

abbrev pub done : List ℕ
done = 0 ∷ []
