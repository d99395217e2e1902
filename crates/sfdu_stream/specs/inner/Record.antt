-- What a step finds at a place of a stream. Assumes nothing.
use Rattle.std.specs.Prelude.{ℕ, true, List, ◌≡◌, drop}
use Rattle.sfdu.specs.declared.Kind.{Kind}
use Rattle.sfdu.specs.Read.{kind_of, record_length}
use Rattle.sfdu_stream.specs.Walk.{whole}

-- A whole record of this kind and length stands at this place.
pub record RecordAt (s : List ℕ) (at : ℕ) (k : Kind) (n : ℕ) : Type 0 where
  pub is_whole : whole s at ≡ true
  pub kind : k ≡ kind_of (drop at s)
  pub size : n ≡ record_length (drop at s)
