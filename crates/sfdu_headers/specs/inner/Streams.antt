-- The stream key of a record that is known to be whole. Assumes nothing.
use Rattle.std.specs.Prelude.{ℕ, cond, List, Option, Some, None}
use Rattle.refusals.specs.Judge.{none_applies}
use Rattle.sfdu.specs.declared.Kind.{Kind}
use Rattle.sfdu_headers.specs.Ranges.{field_rules}
use Rattle.sfdu_headers.specs.Headers.{key_of}

-- The stream key; none if a field of the header is out of range.
unfoldable pub stream_key_in : Kind → List ℕ → Option ℕ
stream_key_in k s = cond (none_applies (field_rules k s)) (Some (key_of k s)) None
