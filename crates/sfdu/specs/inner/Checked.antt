-- What the inner functions of read one give. Assumes nothing.
use Rattle.std.specs.Prelude.{ℕ, Bool, cond, ◌&&◌, List, eqb, Option, Some, None, Result, Ok, Err}
use Rattle.refusals.specs.Judge.{Rule, judge}
use Rattle.refusals.specs.declared.Refusal.{Refusal}
use Rattle.sfdu.specs.declared.Fault.{Fault}
use Rattle.sfdu.specs.Read.{record_length, block_type, block_length, accepts}

-- Whether the block at index `at` has this type and this length.
abbrev pub is_label : List ℕ → (at type size : ℕ) → Bool
is_label s at type size = eqb (block_type s at) type && eqb (block_length s at) size

-- The refusal, with the offset that the first rule that holds gives; accepted if none holds.
abbrev pub checked : Refusal → List (Rule ℕ) → Result (Unit {0}) Fault
checked refusal rules = judge (λ at. Err (record { refusal = refusal; at = at })) rules (Ok tt)

-- The record's length, if read one accepts it.
unfoldable pub whole_size : List ℕ → Option ℕ
whole_size s = cond (accepts s) (Some (record_length s)) None
