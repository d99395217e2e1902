-- A tag and a block's label as one number; and the blocks' rules as one test. Assumes nothing.
use Prim.Native.Nat.{ℕ, ◌+◌, ◌-◌, ◌*◌, ◌≤◌, ◌<◌}
use native.Mathlib.Omega.{arith}
use mathlib.Core.Bool.{Bool, true, false, not, cond, ◌&&◌}
use mathlib.Core.List.{List, ◌++◌}
use mathlib.Core.Path.{◌≡◌, refl, sym, ap, ◌∙◌}
use borrow.Author.Tests.{eq-eqb, ne_eqb, eqb-true, eqb-false}
use lib.Dec.{eqb, lit≤}
use lib.ListN.{length}
use Rattle.refusals.specs.Judge.{judge, none_applies}
use Rattle.octets.specs.Octets.{number_at, bytes_of, part, same_at}
use Rattle.octets.proofs.Laws.{Bytes, number_lt, number-join}
use Rattle.octets.proofs.Parts.{number-bytes, bytes-number, same-part, part_same}
use Rattle.sfdu.specs.declared.Kind.{Kind}
use Rattle.sfdu.specs.declared.Kind.TheVariants.{Telemetry, Rsr}
use Rattle.sfdu.specs.Nesting.{
  kind_bytes,
  kind_at,
  tag_size,
  label_size,
  block_field_size,
  aggregation_at,
  primary_at,
  secondary_at,
  data_at,
  data_value_at,
  aggregation_length,
  primary_length,
  secondary_length,
  aggregation_type,
  primary_type,
  secondary_type,
  data_type,
  most_data,
}
use Rattle.sfdu.specs.Read.{has_kind, record_length, block_type, block_length, header_rules, data_rules}
use Rattle.sfdu.specs.inner.Checked.{is_label}

-- ---- a label

pub label-number : (s : List ℕ) → Bytes s → (at type size found : ℕ) → found ≡ number_at s at 4 → size ≤ most_data
    → eqb found (type * 65536 + size) ≡ is_label s at type size
unfolding block_type block_length
label-number s bytes at type size found word small = by (eqb (block_type s at) type) (eqb (block_length s at) size) refl refl
  where
    parts : found ≡ block_type s at * 65536 + block_length s at
    parts = word ∙ number-join s at 2 2

    low : block_length s at < 65536
    low = number_lt s (at + block_field_size) 2 bytes

    by : (a b : Bool) → eqb (block_type s at) type ≡ a → eqb (block_length s at) size ≡ b → eqb found (type * 65536 + size) ≡ a && b
    by true true t l =
        let x : block_type s at ≡ type = eqb-true _ _ t in
        let y : block_length s at ≡ size = eqb-true _ _ l in
        eq-eqb found (type * 65536 + size) (omega (arith, parts))
    by true false t l =
        let x : block_type s at ≡ type = eqb-true _ _ t in
        ne_eqb found (type * 65536 + size) (λ q. eqb-false (block_length s at) size l (omega (arith, parts, low)))
    by false b t l = ne_eqb found (type * 65536 + size) (λ q. eqb-false (block_type s at) type t (omega (arith, parts, low)))

-- ---- a tag

-- What the tag of a kind spells, as a number.
abbrev pub tag_number : Kind → ℕ
tag_number Telemetry = 808988720
tag_number Rsr = 1127823671

spelt : (k : Kind) → bytes_of 4 (tag_number k) ≡ part (kind_bytes k) 0 tag_size
unfolding bytes_of part
spelt Telemetry = refl
spelt Rsr = refl

spelt_back : (k : Kind) → number_at (bytes_of 4 (tag_number k)) 0 4 ≡ tag_number k
unfolding bytes_of number_at
spelt_back Telemetry = refl
spelt_back Rsr = refl

tag-long : (k : Kind) → tag_size ≤ length (kind_bytes k)
tag-long Telemetry = lit≤ tt
tag-long Rsr = lit≤ tt

module _ (k : Kind) (s : List ℕ) (bytes : Bytes s) (long : label_size ≤ length s) where
  tag-part : bytes_of 4 (number_at s kind_at 4) ≡ part s kind_at tag_size
  tag-part = bytes-number s kind_at 4 bytes (omega arith)

  pub tag_same : number_at s kind_at 4 ≡ tag_number k → has_kind k s ≡ true
  unfolding has_kind
  tag_same e = part_same s kind_at (kind_bytes k) 0 tag_size (sym tag-part ∙ ap (bytes_of 4) e ∙ spelt k)

  pub tag-other : (number_at s kind_at 4 ≡ tag_number k → ⊥) → has_kind k s ≡ false
  unfolding has_kind
  tag-other h = by (same_at s kind_at (kind_bytes k) 0 tag_size) refl
    where
      by : (b : Bool) → same_at s kind_at (kind_bytes k) 0 tag_size ≡ b → same_at s kind_at (kind_bytes k) 0 tag_size ≡ false
      by true e =
          let p = same-part s kind_at (kind_bytes k) 0 tag_size (omega arith) (tag-long k) e in
          let back = number-bytes 4 (number_at s kind_at 4) (number_lt s kind_at 4 bytes) in
          absurd (h (sym back ∙ ap (λ (x : List ℕ). number_at x 0 4) (tag-part ∙ p ∙ sym (spelt k)) ∙ spelt_back k))
      by false e = e

-- ---- the blocks

both : (a b m : Bool) → cond (not a) false (cond (not b) false m) ≡ ((a && b) && m)
both true true m = refl
both true false m = refl
both false b m = refl

last : (a b : Bool) → cond (not a) false (cond (not b) false true) ≡ (a && b)
last true true = refl
last true false = refl
last false b = refl

-- one pair of tests, before others
abbrev pair : (a b m : Bool) → Bool
pair a b m = cond (not a) false (cond (not b) false m)

four : (a b c d e f g h : Bool) → pair a b (pair c d (pair e f (pair g h true))) ≡ ((a && b) && ((c && d) && ((e && f) && (g && h))))
four a b c d e f g h =
    both a b (pair c d (pair e f (pair g h true)))
    ∙ ap (λ (m : Bool). (a && b) && m) (both c d (pair e f (pair g h true))
    ∙ ap (λ (m : Bool). (c && d) && m) (both e f (pair g h true) ∙ ap (λ (m : Bool). (e && f) && m) (last g h)))

pub blocks-test : (k : Kind) (s : List ℕ)
    → none_applies (header_rules k s ++ data_rules k s)
    ≡ (is_label s aggregation_at aggregation_type (aggregation_length k) && (is_label s primary_at primary_type primary_length
    && (is_label s secondary_at (secondary_type k) (secondary_length k) && is_label s (data_at k) data_type (record_length s - data_value_at k))))
unfolding judge
blocks-test k s =
    four (eqb (block_type s aggregation_at) aggregation_type) (eqb (block_length s aggregation_at) (aggregation_length k))
    (eqb (block_type s primary_at) primary_type)
    (eqb (block_length s primary_at) primary_length)
    (eqb (block_type s secondary_at) (secondary_type k))
    (eqb (block_length s secondary_at) (secondary_length k))
    (eqb (block_type s (data_at k)) data_type)
    (eqb (block_length s (data_at k)) (record_length s - data_value_at k))
