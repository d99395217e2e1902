-- The rules that several calls begin with, and the number of a verdict. Assumes nothing.
use Rattle.std.specs.Prelude.{ℕ, Bool, not, List, [], ◌∷◌, Result, Ok, Err}
use Rattle.refusals.specs.declared.Refusal.{Refusal}
use Rattle.refusals.specs.Table.{number_of}
use Rattle.refusals.specs.Judge.{Rule, ◌when◌}
use Rattle.keys.specs.Key.{valid_key}
use Rattle.ledger_model.specs.Book.{is_desk}

abbrev pub key_rules : (fine : Bool) (key : ℕ) → List (Rule ℕ)
key_rules fine key = (20 when not fine) ∷ (22 when not (valid_key key)) ∷ []

abbrev pub desk_number_rules : (fine : Bool) (desk : ℕ) → List (Rule ℕ)
desk_number_rules fine desk = (20 when not fine) ∷ (21 when not (is_desk desk)) ∷ []

-- The number of a verdict: the refusal's; 0 if the call is accepted.
abbrev pub verdict_number : Result (Unit {0}) Refusal → ℕ
verdict_number (Ok _) = 0
verdict_number (Err r) = number_of r
