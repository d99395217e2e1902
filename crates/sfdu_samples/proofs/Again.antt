-- Unpacked and packed again, and packed and unpacked again: one proof for every width. Assumes nothing.
use Rattle.std.proofs.Common.{◌≡◌, ℕ, zero, suc, ◌+◌, ◌*◌, ◌/◌, ◌%◌, ◌^◌, ◌<◌, ◌≤◌, true, List, [], ◌∷◌, ◌++◌, length, take, drop, ℤ, refl, ◌∙◌}
use Rattle.std.proofs.Common.{le_of_suc-le-suc, not-suc-le-zero, add-zero, mod-lt, mod-eq_of_lt, suc-mul, div-lt_iff_lt-mul, pow-suc, div-add-mod'}
use Rattle.std.proofs.Common.{mul-div_cancel, arith, lit<, length-drop, take-append-drop, get_or-drop, drop_at}
use native.Mathlib.Nat.{mul-mod_left, pow-zero, mul-add-div_right, mul-add-mod_self_right, div-eq_of_lt}
use Rattle.octets.specs.Octets.{number_at, bytes_of, part}
use Rattle.octets.proofs.Laws.{Bytes, number_lt, length-bytes_of, all-each}
use Rattle.octets.proofs.Parts.{number-first, number-bytes, bytes-number}
use Rattle.sfdu_samples.specs.Packing.{
  value_of,
  has_code,
  code_of,
  per_half,
  per_sample_word,
  half_sample_word,
  pairs_of,
  samples_of,
  half_of,
  sample_word_of,
  unpacked_sample_words,
  packed_sample_words,
  unpacked,
  packed,
  all_coded,
}
use Rattle.sfdu_samples.specs.inner.Widths.{IsWidth}
use Rattle.sfdu_samples.proofs.Values.{codes-some, value-code, code-value}
use Rattle.sfdu_samples.proofs.Judged.{per-some}
use Rattle.sfdu_samples.proofs.Unpacking.{length-samples, length-unpacked}
use Rattle.sfdu_samples.proofs.Packed.{Coded, coded, coded-drop, half-small, length-packed}

-- ---- a half word and its codes

module _ (w : ℕ) (some : 0 < w) where
  low-code : (v : ℕ) → code_of w (value_of w (v % 2 ^ w)) ≡ v % 2 ^ w
  low-code v = (value-code w (v % 2 ^ w) some (mod-lt v (codes-some w))).code

  less : (v p : ℕ) → v < p * 2 ^ w → v / 2 ^ w < p
  less v p h = (div-lt_iff_lt-mul {k = 2 ^ w} {x = v} {y = p} (codes-some w)).1 h

  -- the codes of n pairs make the halves that the pairs are from
  i-again : (n i q : ℕ) (ys : List ℤ) → i < (2 ^ w) ^ n → half_of w n (pairs_of w n i q ++ ys) ≡ i
  unfolding half_of pairs_of
  i-again zero i q ys h = omega (arith, rw pow-zero at h)
  i-again (suc n) i q ys h =
      rw (i-again n (i / 2 ^ w) (q / 2 ^ w) ys (less i ((2 ^ w) ^ n) (rw pow-suc at h)), low-code i) (div-add-mod' i (2 ^ w))

  q-again : (n i q : ℕ) (ys : List ℤ) → q < (2 ^ w) ^ n → half_of w n (drop 1 (pairs_of w n i q ++ ys)) ≡ q
  unfolding half_of pairs_of
  q-again zero i q ys h = omega (arith, rw pow-zero at h)
  q-again (suc n) i q ys h =
      rw (q-again n (i / 2 ^ w) (q / 2 ^ w) ys (less q ((2 ^ w) ^ n) (rw pow-suc at h)), low-code q) (div-add-mod' q (2 ^ w))

  -- the pairs from the halves of n pairs are those pairs
  upper : (h c : ℕ) → c < 2 ^ w → (h * 2 ^ w + c) / 2 ^ w ≡ h
  upper h c l = mul-add-div_right (codes-some w) h c ∙ rw (div-eq_of_lt l) (add-zero h)

  lower : (h c : ℕ) → c < 2 ^ w → (h * 2 ^ w + c) % 2 ^ w ≡ c
  lower h c l = mul-add-mod_self_right h (2 ^ w) c ∙ mod-eq_of_lt l

  pairs-again : (n : ℕ) (xs : List ℤ) → Coded w xs → 2 * n ≤ length xs → pairs_of w n (half_of w n xs) (half_of w n (drop 1 xs)) ≡ take (2 * n) xs
  unfolding half_of pairs_of
  pairs-again zero xs c h = refl
  pairs-again (suc n) [] c h = absurd (omega arith)
  pairs-again (suc n) (a ∷ []) c h = absurd (omega arith)
  pairs-again (suc n) (a ∷ b ∷ ys) c h =
      let first = code-value w a some (c 0 (omega arith)) in
      let second = code-value w b some (c 1 (omega arith)) in
      let e : 2 * suc n ≡ suc (suc (2 * n)) = omega arith in
      rw (
        e,
        upper (half_of w n ys) (code_of w a) first.less,
        lower (half_of w n ys) (code_of w a) first.less,
        upper (half_of w n (drop 1 ys)) (code_of w b) second.less,
        lower (half_of w n (drop 1 ys)) (code_of w b) second.less,
        first.value,
        second.value,
        pairs-again n ys (coded-drop w 2 (a ∷ b ∷ ys) c) (omega arith),
      )

-- ---- bytes and their number

bytes-again : (s : List ℕ) → Bytes s → 4 ≤ length s → bytes_of 4 (number_at s 0 4) ≡ take 4 s
unfolding part
bytes-again s b h = bytes-number s 0 4 b h

number-again : (v : ℕ) (ys : List ℕ) → v < 256 ^ 4 → number_at (bytes_of 4 v ++ ys) 0 4 ≡ v
number-again v ys h = number-first (bytes_of 4 v) ys 0 4 (rw length-bytes_of (omega arith)) ∙ number-bytes 4 v h

-- ---- words

word-again : (w v : ℕ) (ys : List ℤ) → IsWidth w → v < 256 ^ 4 → sample_word_of w (samples_of w v ++ ys) ≡ v
unfolding sample_word_of samples_of
word-again w v ys h l =
    let i : v % half_sample_word < (2 ^ w) ^ per_half w = rw h.whole (omega arith) in
    let q : v / half_sample_word < (2 ^ w) ^ per_half w = rw h.whole (omega arith) in
    rw (
      i-again w h.some (per_half w) (v % half_sample_word) (v / half_sample_word) ys i,
      q-again w h.some
          (per_half w) (v % half_sample_word) (v / half_sample_word) ys q,
    ) (omega arith)

bytes_drop : (n : ℕ) (s : List ℕ) → Bytes s → Bytes (drop n s)
bytes_drop n s b k = rw get_or-drop (b (n + k))

pub packed-again : (w n : ℕ) (s : List ℕ) → IsWidth w → Bytes s → length s ≡ n * 4 → packed_sample_words w n (unpacked_sample_words w n s) ≡ s
unfolding packed_sample_words unpacked_sample_words
packed-again w zero [] h b l = refl
packed-again w zero (x ∷ s) h b l = absurd (omega arith)
packed-again w (suc n) s h b l =
    let v = number_at s 0 4 in
    let rest = unpacked_sample_words w n (drop 4 s) in
    let left : length (drop 4 s) ≡ n * 4 = rw length-drop (omega arith) in
    rw (
      word-again w v rest h (number_lt s 0 4 b),
      drop_at (samples_of w v) rest (per_sample_word w) (length-samples w v),
      packed-again w n (drop 4 s) h (bytes_drop 4 s b) left,
      bytes-again s b (omega arith),
      take-append-drop,
    )

samples-again : (w : ℕ) (xs : List ℤ) → IsWidth w → Coded w xs → per_sample_word w ≤ length xs
    → (sample_word_of w xs < 256 ^ 4) × (samples_of w (sample_word_of w xs) ≡ take (per_sample_word w) xs)
unfolding sample_word_of samples_of
samples-again w xs h c l =
    let long : 2 * per_half w ≤ length (drop 1 xs) + 1 = rw length-drop (omega arith) in
    let i = half-small w (per_half w) xs h c (omega arith) (omega arith) in
    let q = half-small w (per_half w) (drop 1 xs) h (coded-drop w 1 xs c) (omega arith) long in
    let low : (half_of w (per_half w) (drop 1 xs) * half_sample_word + half_of w (per_half w) xs)
    % half_sample_word ≡ half_of w (per_half w) xs = omega arith in
    let high : (half_of w (per_half w) (drop 1 xs) * half_sample_word + half_of w (per_half w) xs) /
    half_sample_word ≡ half_of w (per_half w) (drop 1 xs) = omega arith in
    (omega arith, rw (low, high) (pairs-again w h.some (per_half w) xs c l))

pub unpacked-again : (w n : ℕ) (xs : List ℤ) → IsWidth w → Coded w xs → length xs ≡ n * per_sample_word w
    → unpacked_sample_words w n (packed_sample_words w n xs) ≡ xs
unfolding packed_sample_words unpacked_sample_words
unpacked-again w zero [] h c l = refl
unpacked-again w zero (x ∷ xs) h c l = absurd (omega arith)
unpacked-again w (suc n) xs h c l =
    let long : per_sample_word w ≤ length xs = omega (arith, suc-mul n (per_sample_word w)) in
    let word = samples-again w xs h c long in
    let rest = packed_sample_words w n (drop (per_sample_word w) xs) in
    let left : length (drop (per_sample_word w) xs) ≡ n * per_sample_word w = rw length-drop (omega (arith, suc-mul n (per_sample_word w))) in
    rw (
      number-again (sample_word_of w xs) rest word.0,
      drop_at (bytes_of 4 (sample_word_of w xs)) rest 4 (length-bytes_of 4 (sample_word_of w xs)),
      unpacked-again w n (drop (per_sample_word w) xs) h (coded-drop w (per_sample_word w) xs c) left,
      word.1,
      take-append-drop,
    )

-- ---- unpacked numbers have codes

abbrev Every : ℕ → List ℤ → Type 0
Every w [] = Unit {0}
Every w (x ∷ xs) = (has_code w x ≡ true) × Every w xs

every_append : (w : ℕ) (xs ys : List ℤ) → Every w xs → Every w ys → Every w (xs ++ ys)
every_append w [] ys a b = b
every_append w (x ∷ xs) ys a b = (a.0, every_append w xs ys a.1 b)

every-at : (w : ℕ) (xs : List ℤ) → Every w xs → Coded w xs
every-at w [] e k l = absurd (not-suc-le-zero l)
every-at w (x ∷ xs) e zero l = e.0
every-at w (x ∷ xs) e (suc k) l = every-at w xs e.1 k (le_of_suc-le-suc l)

every-pair : (w n i q : ℕ) → 0 < w → Every w (pairs_of w n i q)
unfolding pairs_of
every-pair w zero i q s = tt
every-pair w (suc n) i q s =
    let b = codes-some w in
    ((value-code w (i % 2 ^ w) s (mod-lt i b)).has, ((value-code w (q % 2 ^ w) s (mod-lt q b)).has, every-pair w n (i / 2 ^ w) (q / 2 ^ w) s))

every-word : (w n : ℕ) (s : List ℕ) → 0 < w → Every w (unpacked_sample_words w n s)
unfolding unpacked_sample_words samples_of
every-word w zero s p = tt
every-word w (suc n) s p =
    let v = number_at s 0 4 in
    every_append w (pairs_of w (per_half w) (v % half_sample_word) (v / half_sample_word)) (unpacked_sample_words w n (drop 4 s))
    (every-pair w (per_half w) (v % half_sample_word) (v / half_sample_word) p) (every-word w n (drop 4 s) p)

-- ---- a data part

pub packed-whole : (w : ℕ) (xs : List ℤ) → length (packed w xs) % 4 ≡ 0
packed-whole w xs = rw length-packed (mul-mod_left (length xs / per_sample_word w) 4)

module _ (w : ℕ) (h : IsWidth w) where
  per : 0 < per_sample_word w
  per = per-some w h

  pub unpacked-coded : (s : List ℕ) → all_coded w (unpacked w s) ≡ true
  unpacked-coded s = all-each _ _ (every-at w (unpacked w s) (every-word w (length s / 4) s h.some))

  pub unpacked-whole : (s : List ℕ) → length (unpacked w s) % per_sample_word w ≡ 0
  unpacked-whole s = rw length-unpacked (mul-mod_left (length s / 4) (per_sample_word w))

  -- Packing what was unpacked gives the data part again.
  pub packed-unpacked : (s : List ℕ) → Bytes s → length s % 4 ≡ 0 → packed w (unpacked w s) ≡ s
  packed-unpacked s b e =
      let n : length (unpacked w s) / per_sample_word w ≡ length s / 4 = rw length-unpacked (mul-div_cancel (length s / 4) per) in
      rw n (packed-again w (length s / 4) s h b (omega arith))

  pub unpacked-packed : (xs : List ℤ) → all_coded w xs ≡ true → length xs % per_sample_word w ≡ 0 → unpacked w (packed w xs) ≡ xs
  unpacked-packed xs c e =
      let n : length (packed w xs) / 4 ≡ length xs / per_sample_word w = rw length-packed (mul-div_cancel (length xs / per_sample_word w) (lit< tt)) in
      let l : length xs ≡ length xs / per_sample_word w * per_sample_word w = omega (arith, div-add-mod' (length xs) (per_sample_word w), e) in
      rw n (unpacked-again w (length xs / per_sample_word w) xs h (coded w xs c) l)
