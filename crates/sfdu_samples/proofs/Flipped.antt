-- A code whose highest bit is flipped, and where the samples of a word stand. Assumes nothing.
use Rattle.std.proofs.Common.{◌≡◌, ℕ, zero, suc, ◌+◌, ◌-◌, ◌*◌, ◌/◌, ◌%◌, ◌^◌, ◌<◌, ◌≤◌, Bool, true, false, not, ◌&&◌, ◌||◌, eqb, ltb, leb, pos, negsuc, ◌+ℤ◌}
use Rattle.std.proofs.Common.{◌-ℤ◌, ◌*ℤ◌, sym, refl, ap, ◌∙◌, mod-lt, mod-eq_of_lt, mul_assoc, mul_comm, div-lt_iff_lt-mul, add-mul, mul-lt-mul_of_pos_right}
use Rattle.std.proofs.Common.{mul-pos, div-add-mod', mul-add, arith, pow_pos, pow-add, w32, SFits, ltb-false, ltb-true, le-ltb, lt-ltb, eq-eqb, eqb-true}
use Rattle.std.proofs.Common.{le-leb}
use native.Mathlib.Nat.{add-mul-div_left, add-mul-mod_self_left, add-mul-mod_self_right, div-div-eq-div-mul, mul-div-mul_right}
use borrow.Author.Rules.{sfits_of}
use lib.Bits.{bit_xor, xor_shifted, xor_comm, xor_block, xor_self, xor_zero_r}
use Rattle.octets.specs.Octets.{all}
use Rattle.octets.proofs.Laws.{all-at}
use Rattle.sfdu_samples.specs.Packing.{twos, per_half, half_sample_word}
use Rattle.sfdu_samples.specs.inner.Widths.{IsWidth}
use Rattle.sfdu_samples.proofs.Values.{minus, negated, doubled, codes-most}

-- ---- a number in a run of digits

-- x = (a * n) * t + r
split : (x m : ℕ) → x ≡ x % m + m * (x / m)
split x m = sym (div-add-mod' x m) ∙ omega (arith, mul_comm (x / m) m)

-- the digits from the a's on, below the n's
pub mod-div : (x a n : ℕ) → 0 < a → 0 < n → x % (a * n) / a ≡ x / a % n
mod-div x a n p q =
    let r = x % (a * n) in
    let t = x / (a * n) in
    let an : 0 < a * n = mul-pos p q in
    let bound : r < n * a = omega (arith, mod-lt x an, mul_comm a n) in
    let less : r / a < n = (div-lt_iff_lt-mul {k = a} {x = r} {y = n} p).1 bound in
    let whole : x ≡ r + a * (n * t) = split x (a * n) ∙ rw mul_assoc in
    let up : x / a ≡ r / a + n * t = ap (λ (y : ℕ). y / a) whole ∙ add-mul-div_left r (n * t) p in
    sym (ap (λ (y : ℕ). y % n) up ∙ add-mul-mod_self_left (r / a) n t ∙ mod-eq_of_lt less)

-- shifted up, so that what stands above the digit is lost, and down again
pub shifted : (x a b c : ℕ) → 0 < a → 0 < b → 0 < c → x * c % (a * b * c) / (a * c) ≡ x / a % b
shifted x a b c p q s =
    let m = a * b in
    let r = x % m in
    let t = x / m in
    let less : r * c < m * c = mul-lt-mul_of_pos_right (mod-lt x (mul-pos p q)) s in
    let moved : m * t * c ≡ t * (m * c) = rw (mul_comm m t) (mul_assoc t m c) in
    let whole : x * c ≡ r * c + t * (m * c) = ap (λ (y : ℕ). y * c) (split x m) ∙ add-mul r (m * t) c ∙ ap (λ (y : ℕ). r * c + y) moved in
    let low : x * c % (m * c) ≡ r * c = ap (λ (y : ℕ). y % (m * c)) whole ∙ add-mul-mod_self_right (r * c) t (m * c) ∙ mod-eq_of_lt less in
    ap (λ (y : ℕ). y / (a * c)) low ∙ mul-div-mul_right r a s ∙ mod-div x a b p q

-- ---- the widths, as one computed test

abbrev fills_half : ℕ → Bool
fills_half w = ltb 0 w && leb w 16 && eqb ((2 ^ w) ^ per_half w) half_sample_word

every-width : all 17 (λ w. not (fills_half w) || eqb (w * per_half w) 16) ≡ true
unfolding all
every-width = refl

or_right : (a b : Bool) → a ≡ true → (not a || b) ≡ true → b ≡ true
or_right true b e h = h
or_right false b e h = cc

pub half-bits : (w : ℕ) → IsWidth w → w * per_half w ≡ 16
half-bits w h =
    let less : w < 17 = omega (arith, h.most) in
    let width : fills_half w ≡ true = rw (lt-ltb 0 w h.some, le-leb w 16 h.most, eq-eqb _ _ h.whole) in
    eqb-true _ _ (or_right (fills_half w) _ width (all-at 17 w (λ w. not (fills_half w) || eqb (w * per_half w) 16) every-width less))

-- ---- a flipped code

-- h is the highest bit of w bits
flip_low : (k c : ℕ) → c < 2 ^ k → bit_xor c (2 ^ k) ≡ 2 ^ k + c
flip_low k c l = xor_comm c (2 ^ k) ∙ rw one-times at (xor_shifted 1 k c l)
  where
    one-times : 1 * 2 ^ k ≡ 2 ^ k
    one-times = omega arith

flip_high : (k r : ℕ) → r < 2 ^ k → bit_xor (2 ^ k + r) (2 ^ k) ≡ r
flip_high k r l =
    let one : 2 ^ k + r ≡ 1 * 2 ^ k + r = omega arith in
    let two : 2 ^ k ≡ 1 * 2 ^ k + 0 = omega arith in
    ap (λ (x : ℕ). bit_xor x (2 ^ k)) one ∙ ap (λ (x : ℕ). bit_xor (1 * 2 ^ k + r) x) two ∙ xor_block k 1 1 r 0 l (pow_pos k) ∙ rw (
      xor_self,
      xor_zero_r,
    ) (omega arith)

pub above : (a b : ℕ) → b ≤ a → pos a -ℤ pos b ≡ pos (a - b)
above a zero h = ap pos (omega arith)
above a (suc b) h = rw (le-ltb a (suc b) h)

-- A code with its highest bit flipped, less half the codes; twice that, and a little more.
pub record Flip (w c : ℕ) : Type 0 where
  pub small : bit_xor c (2 ^ (w - 1)) < 65536
  pub half : 2 ^ (w - 1) ≤ 32768
  pub is : pos (bit_xor c (2 ^ (w - 1))) -ℤ pos (2 ^ (w - 1)) ≡ twos w c
  pub fits : SFits w32 (twos w c)
  pub twice : SFits w32 (pos 2 *ℤ twos w c)
  pub value : (n : ℕ) → n < 2 → SFits w32 (pos 2 *ℤ twos w c +ℤ pos n)

pub flip : (w c : ℕ) → IsWidth w → c < 2 ^ w → Flip w c
unfolding twos
flip w c h l = by (ltb c (2 ^ (w - 1))) refl
  where
    by : (t : Bool) → ltb c (2 ^ (w - 1)) ≡ t → Flip w c
    by true e =
        let low = ltb-true c _ e in
        let d = doubled w h.some in
        let most = codes-most w h.most in
        let flipped = flip_low (w - 1) c low in
        let is : twos w c ≡ pos c = rw e in
        record {
          small = omega (arith, flipped);
          half = omega arith;
          is = rw (flipped, above (2 ^ (w - 1) + c) (2 ^ (w - 1)) (omega arith), is) (ap pos (omega arith));
          fits = rw is (sfits_of (omega arith));
          twice = rw is (sfits_of (omega arith));
          value = λ n m. rw is (sfits_of (omega arith));
        }
    by false e =
        let high = ltb-false c _ e in
        let d = doubled w h.some in
        let most = codes-most w h.most in
        let r = c - 2 ^ (w - 1) in
        let less : r < 2 ^ (w - 1) = omega arith in
        let same : 2 ^ (w - 1) + r ≡ c = omega arith in
        let flipped : bit_xor c (2 ^ (w - 1)) ≡ r = rw same at (flip_high (w - 1) r less) in
        let is : twos w c ≡ negsuc (2 ^ w - suc c) = rw (e, minus c (2 ^ w) l) in
        record {
          small = omega (arith, flipped);
          half = omega arith;
          is = rw (flipped, minus r (2 ^ (w - 1)) less, is) (ap negsuc (omega arith));
          fits = rw is (sfits_of (omega arith));
          twice = rw (is, negated (2 * suc (2 ^ w - suc c)) (omega arith)) (sfits_of (omega arith));
          value =
              λ n m. let k = 2 * suc (2 ^ w - suc c) in rw (is, negated k (omega arith), lt-ltb n (suc (k - 1)) (omega arith)) (sfits_of (omega arith));
        }

-- ---- a sample shifted to the top of a word and down

pub picked : (x up w : ℕ) → up + w ≤ 32 → x * 2 ^ up % 4294967296 / 2 ^ (32 - w) ≡ x / 2 ^ (32 - w - up) % 2 ^ w
picked x up w h =
    let m = 32 - w - up in
    let below : 32 - w ≡ m + up = omega arith in
    let whole : 32 ≡ m + w + up = omega arith in
    let down : 2 ^ (32 - w) ≡ 2 ^ m * 2 ^ up = ap (λ (e : ℕ). 2 ^ e) below ∙ pow-add 2 m up in
    let range : 4294967296 ≡ 2 ^ m * 2 ^ w * 2 ^ up = ap (λ (e : ℕ). 2 ^ e) whole ∙ pow-add 2 (m + w) up ∙ ap (λ (y : ℕ). y * 2 ^ up) (pow-add 2 m w) in
    rw (down, range) (shifted x (2 ^ m) (2 ^ w) (2 ^ up) (pow_pos m) (pow_pos w) (pow_pos up))

-- ---- a turn of the loop over a word: `left` pairs are still to store

low-digits : (y b r : ℕ) → y % (b * r) % b ≡ y % b
low-digits y b r =
    let t = y / (b * r) in
    let whole : y ≡ y % (b * r) + b * (r * t) = split y (b * r) ∙ rw mul_assoc in
    sym (ap (λ (x : ℕ). x % b) whole ∙ add-mul-mod_self_left (y % (b * r)) b (r * t))

pub record Turn (w left word : ℕ) : Type 0 where
  pub i : word / 2 ^ (32 - w - (16 + w * left - w)) % 2 ^ w ≡ word % half_sample_word / 2 ^ (w * (per_half w - left)) % 2 ^ w
  pub q : word / 2 ^ (32 - w - (16 + w * left - w - 16)) % 2 ^ w ≡ word / half_sample_word / 2 ^ (w * (per_half w - left)) % 2 ^ w
  pub next : (x : ℕ) → x / 2 ^ (w * (per_half w - left)) / 2 ^ w ≡ x / 2 ^ (w * (per_half w - (left - 1)))
  pub some : w ≤ w * left
  pub most : w * left ≤ 16
  pub up : 16 + w * left - w ≡ 16 + w * (left - 1)

pub turn : (w left word : ℕ) → IsWidth w → 0 < left → left ≤ per_half w → Turn w left word
turn w left word h p l =
    let j = per_half w - left in
    let filled = half-bits w h in
    let one = left - 1 in
    let before : left ≡ 1 + one = omega arith in
    let all-of-them : left + j ≡ per_half w = omega arith in
    let a : w * left ≡ w + w * one = ap (λ (n : ℕ). w * n) before ∙ mul-add w 1 one ∙ omega arith in
    let b : w * left + w * j ≡ 16 = sym (mul-add w left j) ∙ ap (λ (n : ℕ). w * n) all-of-them ∙ filled in
    let at_i : 32 - w - (16 + w * left - w) ≡ w * j = omega arith in
    let q-index : w * (per_half w + j) ≡ 16 + w * j = mul-add w (per_half w) j ∙ omega (arith, filled) in
    let at-q : 32 - w - (16 + w * left - w - 16) ≡ w * (per_half w + j) = omega (arith, q-index) in
    let exponent : 16 ≡ w * j + (w + w * one) = omega arith in
    let range : half_sample_word ≡ 2 ^ (w * j) * (2 ^ w * 2 ^ (w * one)) =
    ap (λ (e : ℕ). 2 ^ e) exponent ∙ pow-add 2 (w * j) (w + w * one) ∙ ap (λ (y : ℕ). 2 ^ (w * j) * y) (pow-add 2 w (w * one)) in
    let n : 0 < 2 ^ w * 2 ^ (w * one) = mul-pos (pow_pos w) (pow_pos (w * one)) in
    let low : word % half_sample_word / 2 ^ (w * j) % 2 ^ w ≡ word / 2 ^ (w * j) % 2 ^ w =
    rw (range, mod-div word (2 ^ (w * j)) (2 ^ w * 2 ^ (w * one)) (pow_pos (w * j)) n) (low-digits (word / 2 ^ (w * j)) (2 ^ w) (2 ^ (w * one))) in
    let above_half : 2 ^ (w * (per_half w + j)) ≡ half_sample_word * 2 ^ (w * j) = ap (λ (e : ℕ). 2 ^ e) q-index ∙ pow-add 2 16 (w * j) in
    let high : word / half_sample_word / 2 ^ (w * j) ≡ word / 2 ^ (w * (per_half w + j)) =
    div-div-eq-div-mul word half_sample_word (2 ^ (w * j)) ∙ ap (λ (y : ℕ). word / y) (sym above_half) in
    let more : j + 1 ≡ per_half w - one = omega arith in
    let further : w * j + w ≡ w * (per_half w - one) = omega (arith, mul-add w j 1, ap (λ (n : ℕ). w * n) more) in
    record {
      i = rw (at_i, low);
      q = rw (at-q, high);
      next = λ x. div-div-eq-div-mul x (2 ^ (w * j)) (2 ^ w) ∙ ap (λ (y : ℕ). x / y) (sym (pow-add 2 (w * j) w) ∙ ap (λ (e : ℕ). 2 ^ e) further);
      some = omega arith;
      most = omega arith;
      up = omega arith;
    }
