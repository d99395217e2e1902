-- The lengths of a record's pieces, and the pieces put one behind the other. Assumes nothing.
use Prim.Native.Nat.{ℕ, ◌+◌, ◌≤◌, ◌<◌}
use native.Mathlib.Omega.{arith}
use mathlib.Core.Bool.{true, false}
use mathlib.Core.List.{List, [], ◌∷◌}
use mathlib.Core.Path.{◌≡◌, refl}
use lib.ListN.{length, length-append}
use borrow.Author.Tests.{lt-ltb, le-ltb, ne_eqb, eqb-true, leb-true}
use Rattle.laws.proofs.Bools.{and_split}
use Rattle.refusals.specs.Judge.{judge}
use Rattle.octets.specs.Octets.{put}
use Rattle.octets.proofs.Laws.{length-bytes_of}
use Rattle.octets.proofs.Puts.{put-start}
use Rattle.sfdu.specs.declared.Kind.{Kind}
use Rattle.sfdu.specs.declared.Kind.TheVariants.{Telemetry, Rsr}
use Rattle.sfdu.specs.declared.Primary.{Primary}
use Rattle.sfdu.specs.Nesting.{kind_number, kind_bytes, tag_size, label_size, block_label_size, secondary_value_at, data_value_at, secondary_length, most_data}
use Rattle.sfdu_write.specs.Write.{label_bytes, block, primary_block, head_bytes, record_bytes, is_kind, kind_named, is_input, size_of, write_one}
use Rattle.sfdu.proofs.Placed.{placed}

pub length-kind : (k : Kind) → length (kind_bytes k) ≡ tag_size
length-kind Telemetry = refl
length-kind Rsr = refl

pub length_label : (k : Kind) (n : ℕ) → length (label_bytes k n) ≡ label_size
unfolding label_bytes
length_label k n = simp (length-append, length-kind, length-bytes_of) refl

pub length-block : (type size : ℕ) → length (block type size) ≡ block_label_size
unfolding block
length-block type size = simp (length-append, length-bytes_of) refl

pub length-primary : (p : Primary) → length (primary_block p) ≡ block_label_size + block_label_size
unfolding primary_block
length-primary p = simp (length-append, length-block) refl

pub length-head : (k : Kind) (p : Primary) (n : ℕ) → length (head_bytes k p n) ≡ secondary_value_at
unfolding head_bytes
length-head k p n = simp (length-append, length_label, length-block, length-primary) refl

pub length-record : (k : Kind) (p : Primary) (secondary value : List ℕ) → length secondary ≡ secondary_length k
    → length (record_bytes k p secondary value) ≡ data_value_at k + length value
unfolding record_bytes
length-record k p secondary value e =
    let q = placed k in
    simp (length-append, length-head, length-block) (omega arith)

-- ---- the call, case by case

kind-named : (k : Kind) → kind_named (kind_number k) ≡ k
unfolding kind_named
kind-named Telemetry = refl
kind-named Rsr = refl

is-kind : (k : Kind) → is_kind (kind_number k) ≡ true
unfolding is_kind
is-kind Telemetry = refl
is-kind Rsr = refl

pub lengths : (k : Kind) (secondary value : List ℕ) → is_input k secondary value ≡ true
    → (length secondary ≡ secondary_length k) × (length value ≤ most_data)
unfolding is_input
lengths k secondary value e = let p = and_split _ _ e in (eqb-true _ _ p.0, leb-true _ _ p.1)

module _ (k : Kind) (p : Primary) (secondary value out : List ℕ) where
  pub input-refused : is_input k secondary value ≡ false → write_one (kind_number k) p secondary value out ≡ (14 ∷ [], out)
  unfolding write_one judge
  input-refused e = rw (kind-named k, is-kind k, e)

  pub space-refused : is_input k secondary value ≡ true → length out < size_of k value
      → write_one (kind_number k) p secondary value out ≡ (13 ∷ [], out)
  unfolding write_one judge
  space-refused e h = rw (kind-named k, is-kind k, e, lt-ltb _ _ h)

  pub written : is_input k secondary value ≡ true → size_of k value ≤ length out
      → write_one (kind_number k) p secondary value out ≡ (0 ∷ size_of k value ∷ [], put out 0 (record_bytes k p secondary value))
  unfolding write_one judge
  written e h =
      rw (kind-named k, is-kind k, e, le-ltb _ _ h, put-start, length-record k p secondary value (lengths k secondary value e).0)

-- A number that names neither kind.
pub kind-refused : (number : ℕ) (p : Primary) (secondary value out : List ℕ) → (number ≡ kind_number Telemetry → ⊥) → (number ≡ kind_number Rsr → ⊥)
    → write_one number p secondary value out ≡ (14 ∷ [], out)
unfolding write_one judge is_kind
kind-refused number p secondary value out a b = rw (ne_eqb _ _ a, ne_eqb _ _ b)
