-- The offsets and lengths of a record's parts, from the answer of read one. Assumes nothing.
use Rattle.std.specs.Prelude.{ℕ, Result, Ok, Err, ◌-◌, cond, List, [], ◌∷◌, eqb}
use Rattle.sfdu.specs.declared.Fault.{Fault}
use Rattle.sfdu.specs.declared.Record.{Record}
use Rattle.sfdu.specs.Nesting.{secondary_value_at, secondary_length, data_value_at}
use Rattle.idr.specs.Words.{samples_at}

abbrev pub secondary_place : Result Record Fault → List ℕ
secondary_place (Ok r) = secondary_value_at ∷ secondary_length r.kind ∷ []
secondary_place (Err f) = 0 ∷ 0 ∷ []

abbrev pub data_place : Result Record Fault → List ℕ
data_place (Ok r) = data_value_at r.kind ∷ (r.size - data_value_at r.kind) ∷ []
data_place (Err f) = 0 ∷ 0 ∷ []

-- The offset and length of a medium band record's samples; the length is 0 if the record is refused.
abbrev pub samples_place : (size : ℕ) → List ℕ
samples_place size = cond (eqb size 0) 0 samples_at ∷ size ∷ []
