-- The outcome of a call on the bytes of a sheet: the words of the answer, which are 0 and its values or the refusal's number; and the sheet after the
-- call. Assumes nothing.
use Rattle.std.specs.Prelude.{ℕ, cond, List, [], ◌∷◌, eqb}
use Rattle.refusals.specs.Judge.{Rule, verdict}

abbrev pub Outcome : Type 0
Outcome = List ℕ × List ℕ

-- A call with these refusals, in the order of the table. A refusal leaves the sheet unchanged.
unfoldable pub refused_or : List (Rule ℕ) → Outcome → List ℕ → Outcome
refused_or rules outcome s = cond (eqb (verdict rules) 0) outcome (verdict rules ∷ [], s)
