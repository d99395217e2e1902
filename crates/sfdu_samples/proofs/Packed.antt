-- Numbers packed: a half word, number by number, and one word more. Assumes nothing.
use Rattle.std.proofs.Common.{◌≡◌, ℕ, zero, suc, ◌+◌, ◌-◌, ◌*◌, ◌^◌, ◌<◌, ◌≤◌, true, List, length, get_or, drop, ℤ, pos, refl, add-zero, mul-le-mul_right}
use Rattle.std.proofs.Common.{suc-mul, pow-suc, arith, lit<, length-append, length-drop, get_or-drop, drop-drop}
use native.Mathlib.Nat.{pow-zero, pow-le-pow_right}
use lib.Seq.{sets}
use Rattle.octets.specs.Octets.{bytes_of}
use Rattle.octets.proofs.Laws.{all-at, length-bytes_of}
use Rattle.sfdu_samples.specs.Packing.{has_code, code_of, per_half, per_sample_word, half_sample_word, half_of, sample_word_of, packed_sample_words, all_coded}
use Rattle.sfdu_samples.specs.inner.Widths.{IsWidth}
use Rattle.sfdu_samples.proofs.Values.{codes-some, code-value}
use Rattle.sfdu_samples.proofs.Runs.{sets-append}

-- Every number has a code.
abbrev pub Coded : ℕ → List ℤ → Type 0
Coded w xs = (k : ℕ) → k < length xs → has_code w (get_or xs k (pos 0)) ≡ true

pub coded : (w : ℕ) (xs : List ℤ) → all_coded w xs ≡ true → Coded w xs
coded w xs e k l = all-at (length xs) k (λ i. has_code w (get_or xs i (pos 0))) e l

pub coded-drop : (w n : ℕ) (xs : List ℤ) → Coded w xs → Coded w (drop n xs)
coded-drop w n xs c k l =
    let h : n + k < length xs = omega (arith, rw length-drop at l) in
    rw get_or-drop (c (n + k) h)

-- ---- a half word

pub half-none : (w n : ℕ) (xs : List ℤ) → n ≡ 0 → 0 ≡ half_of w n xs
unfolding half_of
half-none w n xs e = rw e

pub half-more : (w n left at : ℕ) (xs : List ℤ) → 0 < left → left ≤ n
    → half_of w (n - left) (drop (at + 2 * left) xs) * 2 ^ w + code_of w (get_or xs (at + 2 * (left - 1)) (pos 0))
    ≡ half_of w (n - (left - 1)) (drop (at + 2 * (left - 1)) xs)
unfolding half_of
half-more w n left at xs p h =
    let e : n - (left - 1) ≡ suc (n - left) = omega arith in
    let f : at + 2 * (left - 1) + 2 ≡ at + 2 * left = omega arith in
    rw (e, drop-drop 2 (at + 2 * (left - 1)) xs, f, get_or-drop, add-zero)

room : (h b p c : ℕ) → h < p → c < b → h * b + c < p * b
room h b p c l m =
    let r : suc h * b ≤ p * b = mul-le-mul_right b l in
    omega (arith, r, suc-mul h b)

half_lt : (w n : ℕ) (xs : List ℤ) → 0 < w → Coded w xs → 2 * n ≤ length xs + 1 → half_of w n xs < (2 ^ w) ^ n
unfolding half_of
half_lt w zero xs s c h = rw pow-zero (lit< tt)
half_lt w (suc n) xs s c h =
    let first : 0 < length xs = omega arith in
    let rest : 2 * n ≤ length (drop 2 xs) + 1 = rw length-drop (omega arith) in
    rw pow-suc
    (room _ (2 ^ w) ((2 ^ w) ^ n) _ (half_lt w n (drop 2 xs) s (coded-drop w 2 xs c) rest) (code-value w _ s (c 0 first)).less)

pub half-small : (w n : ℕ) (xs : List ℤ) → IsWidth w → Coded w xs → n ≤ per_half w → 2 * n ≤ length xs + 1 → half_of w n xs < half_sample_word
half-small w n xs h c m l =
    let most : (2 ^ w) ^ n ≤ (2 ^ w) ^ per_half w = pow-le-pow_right {n = 2 ^ w} (codes-some w) {i = n} {j = per_half w} m in
    omega (arith, half_lt w n xs h.some c l, most, h.whole)

-- A turn of the loop over a half word: one number more is taken, the one before those taken.
pub record Turn (w left at half : ℕ) (xs : List ℤ) : Type 0 where
  pub is : half * 2 ^ w + code_of w (get_or xs (at + 2 * (left - 1)) (pos 0)) ≡ half_of w (per_half w - (left - 1)) (drop (at + 2 * (left - 1)) xs)
  pub less : half * 2 ^ w + code_of w (get_or xs (at + 2 * (left - 1)) (pos 0)) < half_sample_word

pub turn : (w left at half : ℕ) (xs : List ℤ) → IsWidth w → Coded w xs → 0 < left → left ≤ per_half w → at + per_sample_word w ≤ length xs + 1
    → half ≡ half_of w (per_half w - left) (drop (at + 2 * left) xs) → Turn w left at half xs
turn w left at half xs h c p l m e =
    let here : half * 2 ^ w + code_of w (get_or xs (at + 2 * (left - 1)) (pos 0)) ≡ half_of w (per_half w - (left - 1)) (drop (at + 2 * (left - 1)) xs) =
    rw e (half-more w (per_half w) left at xs p l) in
    let long : 2 * (per_half w - (left - 1)) ≤ length (drop (at + 2 * (left - 1)) xs) + 1 = rw length-drop (omega arith) in
    record { is = here; less = rw here (half-small w _ _ h (coded-drop w (at + 2 * (left - 1)) xs c) (omega arith) long) }

-- ---- words

pub length-packed : (w n : ℕ) (xs : List ℤ) → length (packed_sample_words w n xs) ≡ n * 4
unfolding packed_sample_words
length-packed w zero xs = refl
length-packed w (suc n) xs = rw (length-append, length-bytes_of, length-packed w n (drop (per_sample_word w) xs)) (omega arith)

pub packed_none : (l : List ℕ) (to w left : ℕ) (xs : List ℤ) → left ≡ 0 → sets l to (packed_sample_words w left xs) ≡ l
unfolding packed_sample_words
packed_none l to w left xs e = rw e

pub packed_more : (l : List ℕ) (w i n at : ℕ) (xs : List ℤ) → i < n
    → sets (sets l (i * 4) (bytes_of 4 (sample_word_of w (drop at xs)))) ((i + 1) * 4) (packed_sample_words w (n - (i + 1)) (drop (at + per_sample_word w) xs))
    ≡ sets l (i * 4) (packed_sample_words w (n - i) (drop at xs))
unfolding packed_sample_words
packed_more l w i n at xs h =
    let e : n - i ≡ suc (n - (i + 1)) = omega arith in
    let f : (i + 1) * 4 ≡ i * 4 + 4 = omega arith in
    rw (e, ← sets-append, length-bytes_of, drop-drop, f)
