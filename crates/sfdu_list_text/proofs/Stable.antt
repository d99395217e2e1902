-- What a window says of the record at the start of s, where s is not cut short, the stream says however it goes on: s with any m
-- behind it has the same refusal, the same kind, length and number. Assumes nothing.
use Prim.Native.Nat.{ℕ, ◌+◌, ◌≤◌}
use native.Mathlib.Omega.{arith}
use mathlib.Core.Bool.{Bool, true, false, false≢true}
use mathlib.Core.List.{List, [], ◌∷◌, ◌++◌}
use mathlib.Core.Path.{◌≡◌, refl, sym, ap, ◌∙◌}
use borrow.Author.Tests.{le-ltb, ltb-false, ne_eqb, not-false}
use lib.Dec.{ltb}
use lib.ListN.{length, length-append, get_or-append}
use Rattle.octets.proofs.Laws.{all_same}
use Rattle.refusals.specs.Judge.{Rule, judge, answered}
use Rattle.octets.specs.Octets.{same_at}
use Rattle.octets.proofs.Parts.{number-first}
use Rattle.sfdu.specs.declared.Kind.{Kind}
use Rattle.sfdu.specs.declared.Kind.TheVariants.{Telemetry, Rsr}
use Rattle.refusals.proofs.Judged.{NoneHolds, here}
use Rattle.sfdu.specs.Nesting.{
  authority,
  version_class,
  authority_at,
  version_class_at,
  kind_bytes,
  kind_at,
  tag_size,
  label_size,
  block_label_size,
  data_at,
  data_value_at,
  aggregation_at,
  primary_at,
  secondary_at,
}
use Rattle.sfdu.specs.Read.{has_kind, kind_of, label_length, record_length, length_in_range, block_type, block_length, cut_rule, is_count}
use Rattle.sfdu.proofs.Placed.{placed}
use Rattle.sfdu_headers.specs.Fields.{record_number}
use Rattle.sfdu_stream.specs.Listing.{entry_of}
use Rattle.streaming.specs.Window.{over_rule}
use Rattle.sfdu_list_text.specs.Listing.{}
use Rattle.sfdu_list_text.specs.inner.Stops.{whole, stop_words}
use Rattle.sfdu_list_text.specs.Window.{gives_count, cut_short}
use Rattle.sfdu_list_text.proofs.Rows.{pass, first-behind, agree}
use Rattle.sfdu_list_text.proofs.Judging.{
  front,
  back,
  refusal,
  refusal_is,
  stop-words,
  refused-first,
  labelled,
  headers-within,
  whole-record,
  whole-refusal,
  nothing-whole,
  something-refused,
  refused-something,
}

-- ---- bytes of the first of two lists

module _ (s m : List ℕ) where
  same_first : (a : ℕ) (t : List ℕ) (n : ℕ) → a + n ≤ length s → same_at (s ++ m) a t 0 n ≡ same_at s a t 0 n
  unfolding same_at
  same_first a t n h = all_same n _ _ (λ i l. rw (get_or-append s m 0 (a + i) (omega arith)))

  longer : length s ≤ length (s ++ m)
  longer = rw length-append (omega arith)

  -- ---- the label

  module _ (h : label_size ≤ length s) where
    kind-first : (k : Kind) → has_kind k (s ++ m) ≡ has_kind k s
    unfolding has_kind
    kind-first k = same_first kind_at (kind_bytes k) tag_size (omega arith)

    pub kind-same : kind_of (s ++ m) ≡ kind_of s
    unfolding kind_of
    kind-same = rw (kind-first Telemetry)

    label_same : label_length (s ++ m) ≡ label_length s
    unfolding label_length
    label_same = number-first s m _ _ (omega arith)

    pub length-same : record_length (s ++ m) ≡ record_length s
    unfolding record_length
    length-same = rw label_same

    range_same : (k : Kind) → length_in_range k (s ++ m) ≡ length_in_range k s
    unfolding length_in_range
    range_same k = rw label_same

  -- ---- the blocks

  type-same : (at : ℕ) → at + block_label_size ≤ length s → block_type (s ++ m) at ≡ block_type s at
  unfolding block_type
  type-same at h = number-first s m _ _ (omega arith)

  size_same : (at : ℕ) → at + block_label_size ≤ length s → block_length (s ++ m) at ≡ block_length s at
  unfolding block_length
  size_same at h = number-first s m _ _ (omega arith)

  module _ (k : Kind) (h : data_value_at k ≤ length s) where
    number_same : record_number k (s ++ m) ≡ record_number k s
    unfolding record_number
    number_same = by k h
      where
        by : (j : Kind) → data_value_at j ≤ length s → record_number j (s ++ m) ≡ record_number j s
        by Telemetry l = number-first s m _ _ (omega arith)
        by Rsr l = number-first s m _ _ (omega arith)

    long : label_size ≤ length s
    long = let p = placed k in omega arith

    first : (at : ℕ) → at + block_label_size ≤ 116 → at + block_label_size ≤ length s
    first at l = let p = placed k in omega arith

    data-within : data_at k + block_label_size ≤ length s
    data-within = let p = placed k in omega arith

    blocks-same : back k (s ++ m) ≡ back k s
    blocks-same =
        rw (
          type-same aggregation_at (first aggregation_at (omega arith)),
          size_same aggregation_at (first aggregation_at (omega arith)),
          type-same primary_at (first primary_at (omega arith)),
          size_same primary_at (first primary_at (omega arith)),
          type-same secondary_at (first secondary_at (omega arith)),
          size_same secondary_at (first secondary_at (omega arith)),
          type-same (data_at k) data-within,
          size_same (data_at k) data-within,
          length-same long,
        )

  -- ---- the refusal

  -- the rules from 2 to 17
  abbrev first-rules : List ℕ → List (Rule (List ℕ))
  first-rules x = front x ++ over_rule x ∷ []

  first-same : label_size ≤ length s → first-rules (s ++ m) ≡ first-rules s
  first-same h =
      rw (
        same_first authority_at authority tag_size (omega arith),
        same_first version_class_at version_class tag_size (omega arith),
        kind-first h Telemetry,
        kind-first h Rsr,
        kind-same h,
        range_same h (kind_of s),
        length-same h,
      )

  -- where none of them applies, and 6 does not either, nothing changes behind
  back-same : (h : label_size ≤ length s) → cut_short s ≡ false → NoneHolds (first-rules s)
      → answered (cut_rule (s ++ m) ∷ back (kind_of s) (s ++ m)) [] ≡ answered (cut_rule s ∷ back (kind_of s) s) []
  unfolding judge cut_short refusal is_count
  back-same h uncut n = by (ltb (length s) (record_length s)) refl
    where
      six : ltb (length s) (record_length s) ≡ true → refusal s ≡ 6 ∷ length s ∷ []
      six e = refusal_is s (pass (le-ltb _ _ h) (first-behind (first-rules s) n (rw e here)))

      by : (b : Bool) → ltb (length s) (record_length s) ≡ b
          → answered (cut_rule (s ++ m) ∷ back (kind_of s) (s ++ m)) [] ≡ answered (cut_rule s ∷ back (kind_of s) s) []
      by true e = absurd (false≢true (sym uncut ∙ ap gives_count (six e)))
      by false e =
          let d = headers-within s (not-false _ n.1.1.1.0) in
          let l : record_length s ≤ length s = ltb-false _ _ e in
          let still : ltb (length (s ++ m)) (record_length (s ++ m)) ≡ false = le-ltb (length (s ++ m)) (record_length (s ++ m))
          (omega (arith, longer, length-same h)) in
          rw (still, e) (ap (λ (r : List (Rule (List ℕ))). answered r []) (blocks-same (kind_of s) (omega arith)))

  -- behind a label, 1 does not apply
  behind-1 : (x : List ℕ) → label_size ≤ length x → refusal x ≡ answered (first-rules x ++ cut_rule x ∷ back (kind_of x) x) []
  unfolding refusal judge
  behind-1 x h = rw (le-ltb (length x) label_size h)

  pub refusal-stays : cut_short s ≡ false → refusal (s ++ m) ≡ refusal s
  refusal-stays uncut =
      let h = labelled s uncut in
      behind-1 (s ++ m) (omega (arith, longer))
      ∙ ap (λ (r : List (Rule (List ℕ))). answered (r ++ cut_rule (s ++ m) ∷ back (kind_of (s ++ m)) (s ++ m)) []) (first-same h)
      ∙ ap (λ (k : Kind). answered (first-rules s ++ cut_rule (s ++ m) ∷ back k (s ++ m)) []) (kind-same h)
      ∙ agree (λ given. given) (first-rules s) [] (cut_rule (s ++ m) ∷ back (kind_of s) (s ++ m)) (cut_rule s ∷ back (kind_of s) s) (back-same h uncut)
      ∙ sym (behind-1 s h)

  -- ---- a whole record, and a stop

  pub whole-stays : whole s ≡ true → whole (s ++ m) ≡ true
  unfolding cut_short refusal
  whole-stays e =
      let r = whole-refusal s e in
      let c : cut_short s ≡ false = rw r in
      nothing-whole (s ++ m) (refusal-stays c ∙ r)

  pub record_same : whole s ≡ true → (record_length (s ++ m) ≡ record_length s) × ((place : ℕ) → entry_of place (s ++ m) ≡ entry_of place s)
  unfolding entry_of
  record_same e =
      let r = whole-record s e in
      let h : label_size ≤ length s = omega arith in
      (length-same h, λ place. rw (kind-same h, length-same h, number_same (kind_of s) (omega arith)))

  pub stop-stays : whole s ≡ false → cut_short s ≡ false
      → (whole (s ++ m) ≡ false) × ((place : ℕ) → stop_words place (s ++ m) ≡ stop_words place s)
  stop-stays e c =
      let h = labelled s c in
      let r = refusal-stays c in
      let none = something-refused (s ++ m) (λ q. refused-something s e (sym r ∙ q)) in (
        none,
        λ place. rw (
          stop-words place s (refused-first s e),
          stop-words place (s ++ m) (refused-first (s ++ m) none),
          r,
          ne_eqb (length s) 0
              (λ q. omega arith),
          ne_eqb (length (s ++ m)) 0 (λ q. omega (arith, longer)),
        ),
      )
