-- The label's length, as read one and whole size test it; n is the length that was read. Assumes nothing.
use Prim.Native.Nat.{ℕ, ◌+◌, ◌≤◌, ◌<◌}
use native.Mathlib.Omega.{arith}
use mathlib.Core.Bool.{Bool, true, false, ◌&&◌}
use mathlib.Core.List.{List}
use mathlib.Core.Path.{◌≡◌, ◌∙◌}
use borrow.Author.Tests.{lt-ltb, le-ltb}
use lib.Dec.{leb, ltb}
use lib.ListN.{length}
use Rattle.sfdu.specs.declared.Kind.{Kind}
use Rattle.sfdu.specs.Nesting.{label_size, data_value_at, least_label_length, most_label_length, most_data}
use Rattle.sfdu.specs.Read.{label_length, record_length, length_in_range}
use Rattle.sfdu.proofs.Placed.{placed}
use Rattle.sfdu.proofs.Accepted.{in-range, record-length}

-- What a test of the length that was read says.
pub say-range : (k : Kind) (s : List ℕ) (n : ℕ) {r : Bool} → n ≡ label_length s → r ≡ (leb (least_label_length k) n && leb n (most_label_length k))
    → r ≡ length_in_range k s
unfolding length_in_range
say-range k s n e h = h ∙ rw e

-- Where it is in its range: the record's size, and what a test of the slice's length against it says.
pub record Ranged (k : Kind) (s : List ℕ) (size : ℕ) : Type 0 where
  pub in-its-range : length_in_range k s ≡ true
  pub size_is : size ≡ record_length s
  pub least : data_value_at k ≤ size
  pub most : size ≤ data_value_at k + most_data
  pub cut : length s < size → ltb (length s) (record_length s) ≡ true
  pub uncut : size ≤ length s → ltb (length s) (record_length s) ≡ false

pub ranged : (k : Kind) (s : List ℕ) (n : ℕ) → n ≡ label_length s → length_in_range k s ≡ true → Ranged k s (label_size + n)
ranged k s n e h =
    let p = placed k in
    let r = in-range k s h in
    let size = record-length s n e in
    record {
      in-its-range = h;
      size_is = size;
      least = omega arith;
      most = omega arith;
      cut = λ l. lt-ltb (length s) (record_length s) (omega arith);
      uncut = λ l. le-ltb (length s) (record_length s) (omega arith);
    }
