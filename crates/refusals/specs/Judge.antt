-- How a call refuses. Its refusals are one list of rules, in the order of the table; the first rule whose condition holds decides. A rule gives a
-- refusal number, or the words of an answer. Assumes nothing.
use Rattle.std.specs.Prelude.{ℕ, Bool, true, false, cond, List, [], ◌∷◌}

-- One rule: give `given` when `condition` holds.
infix 40 ◌when◌
pub data Rule (A : Type 0) : Type 0 where
  ◌when◌ : (given : A) (condition : Bool) → Rule A

-- Applies `refuse` to what the first rule that holds gives; otherwise `answer`.
unfoldable pub judge : {A B : Type 0} → (A → B) → List (Rule A) → B → B
judge refuse [] answer = answer
judge refuse ((given when condition) ∷ rules) answer = cond condition (refuse given) (judge refuse rules answer)

-- Maps f over what the rules give.
abbrev pub each : {A B : Type 0} → (A → B) → List (Rule A) → List (Rule B)
each f [] = []
each f ((given when condition) ∷ rules) = (f given when condition) ∷ each f rules

-- `judge` for an answer of the same type as what the rules give.
abbrev pub answered : {A : Type 0} → List (Rule A) → A → A
answered rules answer = judge (λ given. given) rules answer

-- Whether no rule holds.
abbrev pub none_applies : {A : Type 0} → List (Rule A) → Bool
none_applies rules = judge (λ given. false) rules true

-- The refusal number that the rules give; 0 if none holds.
abbrev pub verdict : List (Rule ℕ) → ℕ
verdict rules = answered rules 0
