-- The record number in a slice that is too short for a record, and in one that is not. Assumes nothing.
use Prim.Native.Nat.{ℕ, ◌≤◌, ◌<◌}
use mathlib.Core.List.{List}
use mathlib.Core.Path.{◌≡◌}
use borrow.Author.Tests.{lt-ltb, le-ltb}
use lib.ListN.{length}
use Rattle.sfdu.specs.declared.Kind.{Kind}
use Rattle.sfdu.specs.Nesting.{data_value_at}
use Rattle.sfdu_headers.specs.Fields.{record_number}
use Rattle.sfdu_headers.specs.inner.Numbers.{number_in}

pub number_short : (k : Kind) (s : List ℕ) → length s < data_value_at k → 0 ≡ number_in k s
unfolding number_in
number_short k s l = rw (lt-ltb _ _ l)

pub number-long : (k : Kind) (s : List ℕ) → data_value_at k ≤ length s → number_in k s ≡ record_number k s
unfolding number_in
number-long k s l = rw (le-ltb _ _ l)
