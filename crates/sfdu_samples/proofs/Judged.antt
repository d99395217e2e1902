-- The calls' answers, case by case: what each refusal and an accepted call leave. Assumes nothing.
use Rattle.std.proofs.Common.{◌≡◌, ℕ, ◌*◌, ◌/◌, ◌%◌, ◌<◌, ◌≤◌, true, false, List, [], ◌∷◌, length, ℤ, sym, refl, ap, ◌∙◌, div-lt_iff_lt-mul}
use Rattle.std.proofs.Common.{le-div_iff_mul-le, arith, ltb-false, le-ltb, lt-ltb, eq-eqb, ne_eqb, eqb-true}
use borrow.Author.Tests.{not-false}
use lib.Seq.{sets}
use Rattle.refusals.specs.Judge.{Rule, judge}
use Rattle.refusals.proofs.Judged.{NoneHolds, First, Outcome, none, first, outcome, none-judge, first-judge, judge-append}
use Rattle.sfdu.specs.Read.{data_part}
use Rattle.sfdu_headers.specs.RsrRecord.{rsr_rules}
use Rattle.sfdu_headers.proofs.Rules.{refuse, first-refuses, refuse-append, none-of-both}
use Rattle.sfdu_headers.proofs.RsrRules.{all-refuse}
use Rattle.sfdu_samples.specs.Calls.{fills, writes, size_of, rate_of, data_rules, unpack_rules, unpacking, pack_rules, packing}
use Rattle.sfdu_samples.specs.Packing.{per_half, per_sample_word, unpacked_sample_words, packed_sample_words, unpacked, packed, all_coded}
use Rattle.sfdu_samples.specs.Rates.{is_listed}
use Rattle.sfdu_samples.specs.inner.Unpacking.{unpacking_data}
use Rattle.sfdu_samples.specs.inner.Widths.{IsWidth}
use Rattle.sfdu_samples.proofs.Packed.{length-packed}
use Rattle.sfdu_samples.proofs.Runs.{sets-fills}
use Rattle.sfdu_samples.proofs.Unpacking.{length-unpacked}

pub per-some : (w : ℕ) → IsWidth w → 0 < per_sample_word w
per-some w h =
    let p : 1 ≤ per_half w = (le-div_iff_mul-le {k = w} {x = 1} {y = 16} h.some).1 (omega (arith, h.most)) in
    omega arith

-- n parts of k elements are more than x: tested without the product, which may not fit
pub too_short : (x n k : ℕ) → 0 < k → x / k < n → x < n * k
too_short x n k p h = (div-lt_iff_lt-mul {k = k} {x = x} {y = n} p).0 h

pub long-enough : (x n k : ℕ) → 0 < k → n ≤ x / k → n * k ≤ x
long-enough x n k p h = (le-div_iff_mul-le {k = k} {x = n} {y = x} p).0 h

module _ (size rate : ℕ) (s : List ℕ) (old : List ℤ) where
  pub data-19 : is_listed size rate ≡ false → ◌≡◌ {A = List ℕ × List ℤ} (19 ∷ [], old) (unpacking_data size rate s old)
  unfolding unpacking_data judge
  data-19 e = rw e

  module _ (e : is_listed size rate ≡ true) where
    pub data-34 : (length s % 4 ≡ 0 → ⊥) → ◌≡◌ {A = List ℕ × List ℤ} (34 ∷ [], old) (unpacking_data size rate s old)
    unfolding unpacking_data judge
    data-34 h = rw (e, ne_eqb _ _ h)

    module _ (whole : length s % 4 ≡ 0) where
      pub data-35 : length old < length s / 4 * per_sample_word size → ◌≡◌ {A = List ℕ × List ℤ} (35 ∷ [], old) (unpacking_data size rate s old)
      unfolding unpacking_data judge
      data-35 h = rw (e, eq-eqb _ _ whole, length-unpacked, lt-ltb _ _ h)

      pub data_is : length (unpacked size s) ≤ length old
          → unpacking_data size rate s old ≡ (0 ∷ length (unpacked size s) ∷ [], fills (unpacked size s) old)
      unfolding unpacking_data judge
      data_is h = rw (e, eq-eqb _ _ whole, le-ltb _ _ h)

      pub data-accepts : (list : List ℤ) → length s / 4 * per_sample_word size ≤ length old → list ≡ sets old 0 (unpacked_sample_words size (length s / 4) s)
          → ◌≡◌ {A = List ℕ × List ℤ} (0 ∷ length s / 4 * per_sample_word size ∷ [], list) (unpacking_data size rate s old)
      data-accepts list h f =
          let n = length-unpacked size (length s / 4) s in
          let l : length (unpacked size s) ≤ length old = rw n h in
          rw (f, sets-fills (unpacked size s) old l, ← n) (sym (data_is l))

module _ (size rate : ℕ) (xs : List ℤ) (old : List ℕ) where
  pub pack-19 : is_listed size rate ≡ false → ◌≡◌ {A = List ℕ × List ℕ} (19 ∷ [], old) (packing size rate xs old)
  unfolding packing judge
  pack-19 e = rw e

  module _ (e : is_listed size rate ≡ true) where
    pub pack-34 : (length xs % per_sample_word size ≡ 0 → ⊥) → ◌≡◌ {A = List ℕ × List ℕ} (34 ∷ [], old) (packing size rate xs old)
    unfolding packing judge
    pack-34 h = rw (e, ne_eqb _ _ h)

    module _ (whole : length xs % per_sample_word size ≡ 0) where
      pub pack-37 : all_coded size xs ≡ false → ◌≡◌ {A = List ℕ × List ℕ} (37 ∷ [], old) (packing size rate xs old)
      unfolding packing judge
      pack-37 c = rw (e, eq-eqb _ _ whole, c)

      module _ (c : all_coded size xs ≡ true) where
        pub pack-35 : length old < length xs / per_sample_word size * 4 → ◌≡◌ {A = List ℕ × List ℕ} (35 ∷ [], old) (packing size rate xs old)
        unfolding packing judge
        pack-35 h = rw (e, eq-eqb _ _ whole, c, length-packed, lt-ltb _ _ h)

        pub pack-is : length (packed size xs) ≤ length old → packing size rate xs old ≡ (0 ∷ length (packed size xs) ∷ [], fills (packed size xs) old)
        unfolding packing judge
        pack-is h = rw (e, eq-eqb _ _ whole, c, le-ltb _ _ h)

        pub pack-accepts : (out : List ℕ) → length xs / per_sample_word size * 4 ≤ length old
            → out ≡ sets old 0 (packed_sample_words size (length xs / per_sample_word size) xs)
            → ◌≡◌ {A = List ℕ × List ℕ} (0 ∷ length xs / per_sample_word size * 4 ∷ [], out) (packing size rate xs old)
        pack-accepts out h f =
            let n = length-packed size (length xs / per_sample_word size) xs in
            let l : length (packed size xs) ≤ length old = rw n h in
            rw (f, sets-fills (packed size xs) old l, ← n) (sym (pack-is l))

-- ---- a record

module _ (s : List ℕ) (old : List ℤ) where
  pub refused_as : (g : List ℕ) → First (rsr_rules s) g → unpacking s old ≡ (g, old)
  unfolding unpacking
  refused_as g f = judge-append _ (rsr_rules s) (data_rules (size_of s) (rate_of s) (data_part s) old) _ ∙ first-judge _ _ f

  pub accepted-as : NoneHolds (rsr_rules s) → unpacking s old ≡ unpacking_data (size_of s) (rate_of s) (data_part s) old
  unfolding unpacking unpacking_data
  accepted-as h = judge-append _ (rsr_rules s) (data_rules (size_of s) (rate_of s) (data_part s) old) _ ∙ none-judge _ (rsr_rules s) _ h

-- ---- a call that answers a count was not refused

not-refused : {A : Type 0} (rules : List (Rule (List ℕ))) (xs old : List A) (n : ℕ) → refuse rules ≡ true
    → (writes rules xs old).0 ≡ 0 ∷ n ∷ [] → NoneHolds rules × (n ≡ length xs)
not-refused {A} rules xs old n q e = by (outcome rules)
  where
    by : Outcome rules → NoneHolds rules × (n ≡ length xs)
    by (none h) = (h, cc (ap (λ (p : List ℕ × List A). p.0) (none-judge (λ refusal. (refusal, old)) rules (0 ∷ length xs ∷ [], fills xs old) h)))
    by (first g f) =
        let same : g ≡ 0 ∷ n ∷ [] =
        sym (ap (λ (p : List ℕ × List A). p.0) (first-judge (λ refusal. (refusal, old)) (0 ∷ length xs ∷ [], fills xs old) f)) ∙ e in
        absurd (omega (arith, rw same at (first-refuses f q)))

pub record Unpacks (s : List ℕ) (list : List ℤ) (n : ℕ) : Type 0 where
  pub headers : NoneHolds (rsr_rules s)
  pub listed : is_listed (size_of s) (rate_of s) ≡ true
  pub whole : length (data_part s) % 4 ≡ 0
  pub room : length (unpacked (size_of s) (data_part s)) ≤ length list
  pub count : n ≡ length (unpacked (size_of s) (data_part s))

pub unpacks : (s : List ℕ) (list : List ℤ) (n : ℕ) → (unpacking s list).0 ≡ 0 ∷ n ∷ [] → Unpacks s list n
unfolding unpacking
unpacks s list n e =
    let data-rules = data_rules (size_of s) (rate_of s) (data_part s) list in
    let r = not-refused (unpack_rules s list) (unpacked (size_of s) (data_part s)) list n (refuse-append (rsr_rules s) data-rules (all-refuse s) refl) e in
    let both = none-of-both (rsr_rules s) data-rules r.0 in
    record {
      headers = both.0;
      listed = not-false _ both.1.0;
      whole = eqb-true _ _ (not-false _ both.1.1.0);
      room = ltb-false _ _ both.1.1.1.0;
      count = r.1;
    }

pub record Packs (size rate : ℕ) (xs : List ℤ) (out : List ℕ) (n : ℕ) : Type 0 where
  pub listed : is_listed size rate ≡ true
  pub whole : length xs % per_sample_word size ≡ 0
  pub coded : all_coded size xs ≡ true
  pub room : length (packed size xs) ≤ length out
  pub count : n ≡ length (packed size xs)

pub packs : (size rate : ℕ) (xs : List ℤ) (out : List ℕ) (n : ℕ) → (packing size rate xs out).0 ≡ 0 ∷ n ∷ [] → Packs size rate xs out n
unfolding packing
packs size rate xs out n e =
    let r = not-refused (pack_rules size rate xs out) (packed size xs) out n refl e in
    record {
      listed = not-false _ r.0.0;
      whole = eqb-true _ _ (not-false _ r.0.1.0);
      coded = not-false _ r.0.1.1.0;
      room = ltb-false _ _ r.0.1.1.1.0;
      count = r.1;
    }
