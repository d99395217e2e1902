-- Words unpacked: lengths, and one pair or one word more. Assumes nothing.
use Rattle.std.proofs.Common.{◌≡◌, ℕ, zero, suc, ◌+◌, ◌-◌, ◌*◌, ◌/◌, ◌%◌, ◌^◌, ◌<◌, List, length, drop, set, ℤ, sym, refl, ap, ◌∙◌, suc-mul, mul-zero}
use Rattle.std.proofs.Common.{zero-add, div-one, add-one, arith, length-append, get_or-drop, drop-drop}
use native.Mathlib.Nat.{pow-zero}
use lib.Seq.{sets}
use Rattle.octets.specs.Octets.{number_at}
use Rattle.sfdu_samples.specs.Packing.{value_of, per_half, per_sample_word, half_sample_word, pairs_of, samples_of, unpacked_sample_words}
use Rattle.sfdu_samples.proofs.Runs.{sets-append}

pub length_pairs : (w n i q : ℕ) → length (pairs_of w n i q) ≡ 2 * n
unfolding pairs_of
length_pairs w zero i q = refl
length_pairs w (suc n) i q = ap (λ (k : ℕ). suc (suc k)) (length_pairs w n _ _) ∙ omega arith

pub length-samples : (w v : ℕ) → length (samples_of w v) ≡ per_sample_word w
unfolding samples_of
length-samples w v = length_pairs w (per_half w) (v % half_sample_word) (v / half_sample_word)

pub length-unpacked : (w n : ℕ) (s : List ℕ) → length (unpacked_sample_words w n s) ≡ n * per_sample_word w
unfolding unpacked_sample_words
length-unpacked w zero s = sym (omega arith)
length-unpacked w (suc n) s =
    rw (length-append, length-samples, length-unpacked w n (drop 4 s), suc-mul) (omega arith)

-- the loop in a word: `left` pairs are still to store
pub pair-none : (l : List ℤ) (to w left i q : ℕ) → left ≡ 0 → sets l to (pairs_of w left i q) ≡ l
unfolding pairs_of
pair-none l to w left i q e = rw e

pub pair-more : (l : List ℤ) (to w left i q : ℕ) → 0 < left
    → sets (set (set l to (value_of w (i % 2 ^ w))) (to + 1) (value_of w (q % 2 ^ w))) (to + 2) (pairs_of w (left - 1) (i / 2 ^ w) (q / 2 ^ w))
    ≡ sets l to (pairs_of w left i q)
unfolding pairs_of
pair-more l to w zero i q h = absurd (omega arith)
pair-more l to w (suc left) i q h =
    let e : suc left - 1 ≡ left = omega arith in
    let f : to + 2 ≡ suc (suc to) = omega arith in
    rw (e, f, add-one)

pub word_first : (l : List ℤ) (at w v : ℕ)
    → sets l at (pairs_of w (per_half w) (v % half_sample_word / 2 ^ (w * (per_half w - per_half w)))
    (v / half_sample_word / 2 ^ (w * (per_half w - per_half w))))
    ≡ sets l at (samples_of w v)
unfolding samples_of
word_first l at w v =
    let e : per_half w - per_half w ≡ 0 = omega arith in
    rw (e, mul-zero, pow-zero, div-one, div-one)

-- the loop over words: `left` words are still to unpack
pub words-none : (l : List ℤ) (to w left : ℕ) (s : List ℕ) → left ≡ 0 → sets l to (unpacked_sample_words w left s) ≡ l
unfolding unpacked_sample_words
words-none l to w left s e = rw e

number-at : (s : List ℕ) (a n : ℕ) → number_at (drop a s) 0 n ≡ number_at s a n
unfolding number_at
number-at s a zero = refl
number-at s a (suc n) = rw (number-at s a n, get_or-drop, zero-add)

pub words_more : (l : List ℤ) (to w i n : ℕ) (s : List ℕ) → i < n
    → sets (sets l to (samples_of w (number_at s (i * 4) 4))) (to + per_sample_word w) (unpacked_sample_words w (n - (i + 1)) (drop ((i + 1) * 4) s))
    ≡ sets l to (unpacked_sample_words w (n - i) (drop (i * 4) s))
unfolding unpacked_sample_words
words_more l to w i n s h =
    let e : n - i ≡ suc (n - (i + 1)) = omega arith in
    let f : (i + 1) * 4 ≡ i * 4 + 4 = omega arith in
    rw (e, number-at s (i * 4) 4, drop-drop 4 (i * 4) s, ← sets-append, length-samples, f)
