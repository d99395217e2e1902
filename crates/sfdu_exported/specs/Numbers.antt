-- The numbers of an exported answer, in the order of a walk's words. Assumes nothing.
use Rattle.std.specs.Prelude.{ℕ, List, [], ◌∷◌}
use Rattle.sfdu_exported.specs.declared.Answer.{Answer}

abbrev pub numbers_of : Answer → List ℕ
numbers_of a = a.count ∷ a.place ∷ a.number ∷ a.detail ∷ []
