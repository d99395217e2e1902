-- The record number in any slice, for the lists and the listing program. Assumes nothing.
use Rattle.std.specs.Prelude.{ℕ, cond, List, ltb, length}
use Rattle.sfdu.specs.declared.Kind.{Kind}
use Rattle.sfdu.specs.Nesting.{data_value_at}
use Rattle.sfdu_headers.specs.Fields.{record_number}

-- The record number if s is a record of kind k; 0 if s is too short for one.
unfoldable pub number_in : Kind → List ℕ → ℕ
number_in k s = cond (ltb (length s) (data_value_at k)) 0 (record_number k s)
