-- What the reader accepts the writer makes again. Each piece of the record is the part of the slice where it stands, and the
-- parts join to the first N bytes. Assumes nothing.
use Prim.Native.Nat.{ℕ, ◌+◌, ◌-◌, ◌≤◌, ◌<◌}
use native.Mathlib.Nat.{zero-add}
use native.Mathlib.Omega.{arith}
use mathlib.Core.Bool.{true}
use mathlib.Core.List.{List, ◌++◌}
use mathlib.Core.Path.{◌≡◌, refl, sym, ap, ◌∙◌}
use lib.Seq.{drop-cons}
use lib.ListN.{length}
use Rattle.octets.specs.Octets.{bytes_of, part, same_at}
use Rattle.octets.proofs.Laws.{Bytes, length_part}
use Rattle.octets.proofs.Parts.{bytes-number, part_join, part-whole, same-part}
use Rattle.sfdu.specs.declared.Primary.{Primary}
use Rattle.sfdu.specs.Nesting.{
  authority,
  version_class,
  kind_bytes,
  authority_at,
  version_class_at,
  kind_at,
  tag_size,
  length_at,
  length_size,
  label_size,
  block_field_size,
  block_label_size,
  aggregation_at,
  primary_at,
  primary_value_at,
  secondary_at,
  secondary_value_at,
  data_at,
  data_value_at,
  aggregation_length,
  primary_length,
  secondary_length,
  aggregation_type,
  primary_type,
  secondary_type,
  data_type,
}
use Rattle.sfdu.specs.Read.{primary_words, primary_of, has_kind, kind_of, label_length, record_length, block_type, block_length}
use Rattle.sfdu_write.specs.Write.{label_bytes, block, primary_block, head_bytes, record_bytes}
use Rattle.sfdu.proofs.Placed.{placed}
use Rattle.sfdu_write.proofs.Written.{length-kind}
use Rattle.sfdu.proofs.Accepted.{Accepted, IsBlock}

-- A tag of four bytes that was compared.
tag : (s : List ℕ) (a : ℕ) (t : List ℕ) → length t ≡ tag_size → a + tag_size ≤ length s → same_at s a t 0 tag_size ≡ true → t ≡ part s a tag_size
tag s a t l h e = sym (same-part s a t 0 tag_size h (omega arith) e ∙ part-whole t tag_size l)

-- The label of a block that was compared.
block-part : (s : List ℕ) (at type size : ℕ) → Bytes s → at + block_label_size ≤ length s → IsBlock s at type size
    → block type size ≡ part s at block_label_size
unfolding block block_type block_length
block-part s at type size b h e =
    rw (← e.class, ← e.size_is, bytes-number s at block_field_size b (omega arith), bytes-number s (at + block_field_size) block_field_size b (omega arith))
    (part_join s at block_field_size (at + block_field_size) block_field_size block_label_size refl refl)

-- The four primary values are the part where they stand.
primary-part : (s : List ℕ) → secondary_at ≤ length s → primary_of s ≡ part s primary_value_at primary_length
unfolding part
primary-part s h =
    let one : primary_value_at < length s = omega arith in
    let two : primary_value_at + 1 < length s = omega arith in
    let three : primary_value_at + 2 < length s = omega arith in
    let four : primary_value_at + 3 < length s = omega arith in
    rw (drop-cons s primary_value_at 0, drop-cons s (primary_value_at + 1) 0, drop-cons s (primary_value_at + 2) 0, drop-cons s (primary_value_at + 3) 0)

module _ (s : List ℕ) (b : Bytes s) (f : Accepted s) where
  label-part : label_bytes (kind_of s) (record_length s) ≡ part s 0 label_size
  unfolding label_bytes has_kind label_length
  label-part =
      let n : record_length s - label_size ≡ label_length s = omega (arith, f.size) in
      let one = tag s authority_at authority refl (omega (arith, f.label)) f.authority-right in
      let two = tag s version_class_at version_class refl (omega (arith, f.label)) f.version_class-right in
      let three = tag s kind_at (kind_bytes (kind_of s)) (length-kind (kind_of s)) (omega (arith, f.label)) f.kind-right in
      let tags : authority ++ version_class ≡ part s 0 kind_at =
      ap (λ (x : List ℕ). x ++ version_class) one ∙ ap (λ (x : List ℕ). part s authority_at tag_size ++ x) two
      ∙ part_join s 0 tag_size version_class_at tag_size kind_at refl refl in
      ap (λ (x : List ℕ). x ++ kind_bytes (kind_of s) ++ bytes_of length_size (record_length s - label_size)) tags
      ∙ rw (
        three,
        n,
        bytes-number s length_at length_size b (omega (arith, f.label)),
        part_join s 0 kind_at kind_at tag_size length_at refl refl,
        part_join s 0 length_at length_at length_size label_size refl refl,
      )

  head-part : (p : Primary) → primary_words p ≡ primary_of s → head_bytes (kind_of s) p (record_length s) ≡ part s 0 secondary_value_at
  unfolding head_bytes primary_block
  head-part p e =
      let k = placed (kind_of s) in
      let whole : data_value_at (kind_of s) ≤ length s = omega (arith, f.whole, f.size, f.least) in
      let one = block-part s aggregation_at aggregation_type (aggregation_length (kind_of s)) b (omega arith) f.aggregation in
      let two = block-part s primary_at primary_type primary_length b (omega arith) f.primary in
      let three : primary_words p ≡ part s primary_value_at primary_length = e ∙ primary-part s (omega arith) in
      let four = block-part s secondary_at (secondary_type (kind_of s)) (secondary_length (kind_of s)) b (omega arith) f.secondary in
      rw (
        label-part,
        one,
        two,
        three,
        four,
        part_join s 0 label_size aggregation_at block_label_size primary_at refl refl,
        part_join s primary_at block_label_size primary_value_at primary_length (block_label_size + primary_length) refl refl,
        part_join s 0 primary_at primary_at (block_label_size + primary_length) secondary_at refl refl,
        part_join s 0 secondary_at secondary_at block_label_size secondary_value_at refl refl,
      )

  -- The data's label, by its type and the length of what stands behind it.
  data-label : (value : List ℕ) → length value ≡ record_length s - data_value_at (kind_of s)
      → block data_type (length value) ≡ part s (data_at (kind_of s)) block_label_size
  data-label value e =
      let k = placed (kind_of s) in
      let whole : data_value_at (kind_of s) ≤ length s = omega (arith, f.whole, f.size, f.least) in
      block-part s (data_at (kind_of s)) data_type (length value) b (omega arith)
      record { class = f.data-type; size_is = f.data-length ∙ sym e }

  pub record-part : (p : Primary) → primary_words p ≡ primary_of s
      → record_bytes (kind_of s) p (part s secondary_value_at (secondary_length (kind_of s)))
      (part s (data_value_at (kind_of s)) (record_length s - data_value_at (kind_of s)))
      ≡ part s 0 (record_length s)
  unfolding record_bytes
  record-part p e =
      let k = placed (kind_of s) in
      let low : data_value_at (kind_of s) ≤ record_length s = omega (arith, f.size, f.least) in
      let rest = record_length s - data_value_at (kind_of s) in
      let l : length (part s (data_value_at (kind_of s)) rest) ≡ rest = length_part s _ _ (omega (arith, f.whole)) in
      let n : data_value_at (kind_of s) + length (part s (data_value_at (kind_of s)) rest) ≡ record_length s = omega arith in
      rw (
        n,
        head-part p e,
        data-label (part s (data_value_at (kind_of s)) rest) l,
        part_join s 0 secondary_value_at secondary_value_at (secondary_length (kind_of s)) (data_at (kind_of s)) refl (sym k.data-at),
        part_join s 0 (data_at (kind_of s)) (data_at (kind_of s)) block_label_size (data_value_at (kind_of s)) (zero-add _) (sym k.data-value-at),
        part_join s 0 (data_value_at (kind_of s)) (data_value_at (kind_of s)) rest (record_length s) (zero-add _) (omega arith),
      )
