-- What the writer makes the reader gives back: every piece of a written record is read where it was put. Assumes nothing.
use Prim.Native.Nat.{ℕ, ◌+◌, ◌-◌, ◌^◌, ◌≤◌, ◌<◌}
use native.Mathlib.Omega.{arith}
use mathlib.Core.Bool.{Bool, true, false, not, ◌||◌}
use mathlib.Core.List.{List, [], ◌∷◌, ◌++◌, append_assoc}
use mathlib.Core.Path.{◌≡◌, refl, sym, ap, ◌∙◌}
use borrow.Author.Tests.{eq-eqb, le-leb, le-ltb}
use lib.Dec.{eqb, lit<, lit≤}
use lib.ListN.{length, get_or, length-append}
use Rattle.refusals.proofs.Judged.{NoneHolds, none-applies}
use Rattle.octets.specs.Octets.{number_at, bytes_of, part, same_at}
use Rattle.octets.proofs.Laws.{length-bytes_of, part_at}
use Rattle.octets.proofs.Parts.{number-first, number-second, number-bytes, part-first, part-second, part-whole, part_same, same-part}
use Rattle.sfdu.specs.declared.Kind.{Kind}
use Rattle.sfdu.specs.declared.Kind.TheVariants.{Telemetry, Rsr}
use Rattle.sfdu.specs.declared.Primary.{Primary}
use Rattle.sfdu.specs.Nesting.{
  kind_number,
  authority,
  version_class,
  kind_bytes,
  authority_at,
  version_class_at,
  kind_at,
  tag_size,
  length_at,
  length_size,
  label_size,
  block_field_size,
  aggregation_at,
  primary_at,
  primary_value_at,
  secondary_at,
  secondary_value_at,
  data_at,
  data_value_at,
  aggregation_length,
  primary_length,
  secondary_length,
  aggregation_type,
  primary_type,
  secondary_type,
  data_type,
  most_data,
  least_label_length,
  most_label_length,
}
use Rattle.sfdu.specs.Read.{
  primary_words,
  primary_of,
  has_kind,
  kind_of,
  label_length,
  record_length,
  block_type,
  block_length,
  length_in_range,
  read_rules,
  accepts,
  read_one,
  secondary_part,
  data_part,
}
use Rattle.sfdu_write.specs.Write.{label_bytes, block, primary_block, head_bytes, record_bytes, size_of}
use Rattle.sfdu.proofs.Placed.{placed}
use Rattle.sfdu_write.proofs.Written.{length-kind, length_label, length-block, length-primary, length-head, length-record}
use Rattle.sfdu.proofs.Accepted.{IsBlock, accepted-words}

-- ---- a piece between others

module _ (before v after : List ℕ) (a n : ℕ) (at : length before ≡ a) (l : length v ≡ n) where
  piece-part : part (before ++ (v ++ after)) a n ≡ v
  piece-part =
      part-second before (v ++ after) a 0 n (omega arith) ∙ part-first v after 0 n (omega arith) ∙ part-whole v n l

  piece-same : same_at (before ++ (v ++ after)) a v 0 n ≡ true
  piece-same = part_same (before ++ (v ++ after)) a v 0 n (piece-part ∙ sym (part-whole v n l))

-- a number that was written as w bytes
piece-number : (before after : List ℕ) (a w x : ℕ) → length before ≡ a → x < 256 ^ w → number_at (before ++ (bytes_of w x ++ after)) a w ≡ x
piece-number before after a w x e h =
    number-second before (bytes_of w x ++ after) a 0 w (omega arith)
    ∙ number-first (bytes_of w x) after 0 w (omega (arith, length-bytes_of w x))
    ∙ number-bytes w x h

-- the label of a block
piece-block : (before after : List ℕ) (a type size : ℕ) → length before ≡ a → type < 65536 → size < 65536
    → IsBlock (before ++ (block type size ++ after)) a type size
unfolding block_type block_length block
piece-block before after a type size e t s =
    let one : number_at (before ++ (block type size ++ after)) a block_field_size ≡ type =
    rw append_assoc (piece-number before (bytes_of block_field_size size ++ after) a block_field_size type e t) in
    let two : number_at (before ++ (block type size ++ after)) (a + block_field_size) block_field_size ≡ size =
    rw (append_assoc (bytes_of block_field_size type) (bytes_of block_field_size size) after, ← append_assoc before (bytes_of block_field_size type))
    (piece-number (before ++ bytes_of block_field_size type) after (a + block_field_size) block_field_size size
    (length-append before (bytes_of block_field_size type) ∙ omega (arith, length-bytes_of block_field_size type)) s) in
    record { class = one; size_is = two }

-- No slice has both kinds.
kind-apart : (s : List ℕ) → label_size ≤ length s → has_kind Rsr s ≡ true → has_kind Telemetry s ≡ false
unfolding has_kind
kind-apart s h e = by (has_kind Telemetry s) refl
  where
    by : (b : Bool) → has_kind Telemetry s ≡ b → b ≡ false
    by true t =
        let one = same-part s kind_at (kind_bytes Telemetry) 0 tag_size (omega arith) (lit≤ tt) t in
        let two = same-part s kind_at (kind_bytes Rsr) 0 tag_size (omega arith) (lit≤ tt) e in
        let z : kind_bytes Telemetry ≡ kind_bytes Rsr =
        sym (part-whole (kind_bytes Telemetry) tag_size refl) ∙ sym one ∙ two ∙ part-whole (kind_bytes Rsr) tag_size refl in
        let n : ◌≡◌ {A = ℕ} 48 67 = cc in
        absurd (omega arith)
    by false t = refl

pub kind-of : (k : Kind) (s : List ℕ) → label_size ≤ length s → has_kind k s ≡ true → kind_of s ≡ k
unfolding kind_of
kind-of Telemetry s h e = rw e
kind-of Rsr s h e = rw (kind-apart s h e)

either-kind : (k : Kind) (s : List ℕ) → has_kind k s ≡ true → (has_kind Telemetry s || has_kind Rsr s) ≡ true
either-kind Telemetry s e = rw e
either-kind Rsr s e = by (has_kind Telemetry s)
  where
    by : (b : Bool) → (b || has_kind Rsr s) ≡ true
    by true = refl
    by false = e

-- ---- a written record, and anything behind it

module _ (k : Kind) (p : Primary) (secondary value rest : List ℕ) (hs : length secondary ≡ secondary_length k) (hv : length value ≤ most_data) where
  unfoldable pub slice : List ℕ
  slice = record_bytes k p secondary value ++ rest

  label : List ℕ
  label = label_bytes k (size_of k value)

  aggregation : List ℕ
  aggregation = block aggregation_type (aggregation_length k)

  head : List ℕ
  head = head_bytes k p (size_of k value)

  -- what stands behind the head, behind the label
  tail : List ℕ
  tail = secondary ++ (block data_type (length value) ++ (value ++ rest))

  blocks : List ℕ
  blocks = aggregation ++ (primary_block p ++ (block (secondary_type k) (secondary_length k) ++ tail))

  by-head : slice ≡ head ++ tail
  unfolding slice head tail record_bytes
  by-head = simp append_assoc

  by-label : slice ≡ label ++ blocks
  unfolding label blocks aggregation head head_bytes
  by-label = by-head ∙ simp append_assoc

  by_tags : slice ≡ authority ++ (version_class ++ (kind_bytes k ++ (bytes_of length_size (size_of k value - label_size) ++ blocks)))
  unfolding label label_bytes
  by_tags = by-label ∙ simp append_assoc

  has-authority : same_at slice authority_at authority 0 tag_size ≡ true
  has-authority = rw by_tags (piece-same [] authority _ 0 tag_size refl refl)

  has-version-class : same_at slice version_class_at version_class 0 tag_size ≡ true
  has-version-class = rw by_tags (piece-same authority version_class _ version_class_at tag_size refl refl)

  has-kind : has_kind k slice ≡ true
  unfolding has_kind
  has-kind = rw by_tags (piece-same (authority ++ version_class) (kind_bytes k) _ kind_at tag_size refl (length-kind k))

  small : size_of k value - label_size < 256 ^ length_size
  small = let q = placed k in omega arith

  label-length : label_length slice ≡ size_of k value - label_size
  unfolding label_length
  label-length =
      rw by_tags
      (piece-number (authority ++ version_class ++ kind_bytes k) blocks length_at length_size _ (length-append (authority ++ version_class) (kind_bytes k)
      ∙ rw (length-kind k)) small)

  record-length : record_length slice ≡ size_of k value
  unfolding record_length
  record-length = let q = placed k in rw label-length (omega arith)

  long : size_of k value ≤ length slice
  unfolding slice
  long = rw (length-append (record_bytes k p secondary value) rest, length-record k p secondary value hs) (omega arith)

  in-range : length_in_range k slice ≡ true
  unfolding length_in_range
  in-range =
      let q = placed k in
      let low : least_label_length k ≤ label_length slice = rw label-length (omega arith) in
      let high : label_length slice ≤ most_label_length k = rw label-length (omega arith) in
      rw (le-leb _ _ low, le-leb _ _ high)

  length-pre : length (label ++ aggregation) ≡ primary_at
  unfolding label aggregation
  length-pre = simp (length-append, length_label, length-block) refl

  has-aggregation : IsBlock slice aggregation_at aggregation_type (aggregation_length k)
  unfolding blocks aggregation label
  has-aggregation =
      let q = placed k in
      rw by-label (piece-block label _ aggregation_at aggregation_type (aggregation_length k) (length_label _ _) (lit< tt) (omega arith))

  by-primary : slice ≡ label ++ aggregation ++ (block primary_type primary_length ++ (primary_words p ++ (block (secondary_type k)
      (secondary_length k) ++ tail)))
  unfolding blocks primary_block
  by-primary = by-label ∙ simp append_assoc

  has-primary : IsBlock slice primary_at primary_type primary_length
  has-primary = rw by-primary (piece-block (label ++ aggregation) _ primary_at primary_type primary_length length-pre (lit< tt) (lit< tt))

  primary-value : part slice primary_value_at primary_length ≡ primary_words p
  primary-value =
      rw (by-primary, ← append_assoc (label ++ aggregation) (block primary_type primary_length))
      (piece-part (label ++ aggregation ++ block primary_type primary_length) (primary_words p) _ primary_value_at primary_length
      (length-append (label ++ aggregation) (block primary_type primary_length) ∙ rw (length-pre, length-block) refl) refl)

  by-secondary : slice ≡ label ++ aggregation ++ primary_block p ++ (block (secondary_type k) (secondary_length k) ++ tail)
  unfolding blocks
  by-secondary = by-label ∙ simp append_assoc

  has-secondary : IsBlock slice secondary_at (secondary_type k) (secondary_length k)
  has-secondary =
      let q = placed k in
      rw by-secondary
      (piece-block (label ++ aggregation ++ primary_block p) tail secondary_at (secondary_type k) (secondary_length k)
      (length-append (label ++ aggregation) (primary_block p) ∙ rw (length-pre, length-primary) refl) (omega arith) (omega arith))

  secondary-value : part slice secondary_value_at (secondary_length k) ≡ secondary
  unfolding tail head
  secondary-value = rw by-head (piece-part head secondary _ secondary_value_at (secondary_length k) (length-head _ _ _) hs)

  by-data : slice ≡ head ++ secondary ++ (block data_type (length value) ++ (value ++ rest))
  unfolding tail
  by-data = by-head ∙ simp append_assoc

  length_front : length (head ++ secondary) ≡ data_at k
  unfolding head
  length_front = let q = placed k in simp (length-append, length-head) (omega arith)

  has-data : IsBlock slice (data_at k) data_type (length value)
  has-data = rw by-data (piece-block (head ++ secondary) _ (data_at k) data_type (length value) length_front (lit< tt) (omega arith))

  data-value : part slice (data_value_at k) (length value) ≡ value
  data-value =
      let q = placed k in
      rw (by-data, ← append_assoc (head ++ secondary) (block data_type (length value)))
      (piece-part (head ++ secondary ++ block data_type (length value)) value rest (data_value_at k) (length value)
      (length-append (head ++ secondary) (block data_type (length value)) ∙ rw (length_front, length-block) (omega arith)) refl)

  kind-found : kind_of slice ≡ k
  kind-found = let q = placed k in kind-of k slice (omega (arith, long)) has-kind

  data-length : block_length slice (data_at k) ≡ record_length slice - data_value_at k
  data-length = has-data.size_is ∙ omega (arith, record-length)

  none-holds : NoneHolds (read_rules slice)
  none-holds =
      let q = placed k in
      let n = record-length in
      let type : block_type slice (data_at k) ≡ data_type = has-data.class in (
        le-ltb (length slice) label_size (omega (arith, long)),
        (
          ap not has-authority,
          (
            ap not has-version-class,
            (
              ap not (either-kind k slice has-kind),
              rw kind-found (
                ap not in-range,
                (
                  le-ltb (length slice) (record_length slice) (omega (arith, long)),
                  (
                    is has-aggregation.class,
                    (
                      is has-aggregation.size_is,
                      (
                        is has-primary.class,
                        (
                          is has-primary.size_is,
                          (
                            is has-secondary.class,
                            (is has-secondary.size_is, (is type, (is data-length, tt))),
                          ),
                        ),
                      ),
                    ),
                  ),
                ),
              ),
            ),
          ),
        ),
      )
    where
      is : {x y : ℕ} → x ≡ y → not (eqb x y) ≡ false
      is e = ap not (eq-eqb _ _ e)

  written-accepted : accepts slice ≡ true
  unfolding accepts
  written-accepted = none-applies (read_rules slice) none-holds

  primary-byte : (i : ℕ) → i < primary_length → get_or slice (primary_value_at + i) 0 ≡ get_or (primary_words p) i 0
  primary-byte i h = sym (part_at slice primary_value_at primary_length i h) ∙ ap (λ (x : List ℕ). get_or x i 0) primary-value

  primary-read : primary_of slice ≡ primary_words p
  primary-read = rw (primary-byte 0 (lit< tt), primary-byte 1 (lit< tt), primary-byte 2 (lit< tt), primary-byte 3 (lit< tt))

  pub record-read : read_one slice ≡ 0 ∷ kind_number k ∷ size_of k value ∷ primary_words p
  record-read = accepted-words slice written-accepted ∙ rw (kind-found, record-length, primary-read)

  pub secondary-read : secondary_part slice ≡ secondary
  unfolding secondary_part
  secondary-read = rw (written-accepted, kind-found) secondary-value

  pub data-read : data_part slice ≡ value
  unfolding data_part
  data-read =
      let n : record_length slice - data_value_at k ≡ length value = omega (arith, record-length) in
      rw (written-accepted, kind-found, n) data-value
