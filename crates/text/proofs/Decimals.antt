-- What `io::decimal` puts is `decimal`, and how long that is. Assumes nothing.
use Prim.Native.Nat.{ℕ, zero, suc, ◌+◌, ◌-◌, ◌/◌, ◌%◌, ◌^◌, ◌≤◌, ◌<◌}
use native.Mathlib.Nat.{le_trans, pow-le-pow_right, pow-suc, div-lt_iff_lt-mul, le-div_iff_mul-le}
use native.Mathlib.Numerals.{add-one}
use native.Mathlib.Omega.{arith}
use mathlib.Core.Bool.{Bool, true, false, cond}
use mathlib.Core.List.{[], ◌∷◌}
use mathlib.Core.Path.{◌≡◌, refl, sym, ap, ◌∙◌, subst}
use borrow.Author.Tests.{ltb-false, lt-ltb, le-ltb}
use lib.Dec.{ltb}
use lib.ListN.{length, length-append}
use mir.Syntax.{w64}
use mir.Val.{Fits}
use Rattle.io.specs.Digits.{last_digits, hex_digit_ascii, IsDigitCount}
use Rattle.text.specs.Text.{places_in, decimal, numeral}

-- ---- the digits' count

-- without its last digit a number has one digit less
tenth : (j n : ℕ) → n < 10 ^ suc j → n / 10 < 10 ^ j
tenth j n h = (div-lt_iff_lt-mul {k = 10} {x = n} {y = 10 ^ j} (omega arith)).1 (subst (λ (k : ℕ). n < k) (pow-suc 10 j) h)

-- k digits and one more, the fewest that hold n, but for the last digit
fewer : (j n : ℕ) → IsDigitCount 10 1 n (suc (suc j)) → (10 ≤ n) × IsDigitCount 10 1 (n / 10) (suc j)
fewer j n f =
    let less : suc (suc j) - 1 ≡ suc j = omega arith in
    let big : 10 ^ suc j ≤ n = subst (λ (i : ℕ). 10 ^ i ≤ n) less (f.2 (omega arith)) in
    let ten : 10 ≤ n = le_trans (pow-le-pow_right {n = 10} (omega arith) {i = 1} {j = suc j} (omega arith)) big in
    let same : j ≡ suc j - 1 = omega arith in
    let below : n / 10 < 10 ^ suc j = tenth (suc j) n f.1 in
    let above : 10 ^ j ≤ n / 10 = (le-div_iff_mul-le {k = 10} {x = 10 ^ j} {y = n} (omega arith)).1 (subst (λ (k : ℕ). k ≤ n) (pow-suc 10 j) big) in
    (ten, (omega arith, below, λ l. subst (λ (i : ℕ). 10 ^ i ≤ n / 10) same above))

places_is : (most k n : ℕ) → n ≤ most → IsDigitCount 10 1 n k → places_in most n ≡ k
unfolding places_in
places_is most zero n h f = absurd (omega (arith, f.0))
places_is zero (suc zero) n h f = refl
places_is zero (suc (suc j)) n h f = absurd (omega (arith, (fewer j n f).0))
places_is (suc most) (suc zero) n h f = let l : n < 10 = f.1 in rw (lt-ltb n 10 l)
places_is (suc most) (suc (suc j)) n h f =
    let g = fewer j n f in
    rw (le-ltb n 10 g.0) (ap suc (places_is most (suc j) (n / 10) (omega (arith, g.0)) g.1))

pub decimal-is : (k n : ℕ) → IsDigitCount 10 1 n k → last_digits 10 k n ≡ decimal n
unfolding decimal
decimal-is k n f = ap (λ (i : ℕ). last_digits 10 i n) (sym (places_is n k n (omega arith) f))

-- ---- its length

length_digits : (k n : ℕ) → length (last_digits 10 k n) ≡ k
length_digits zero n = refl
length_digits (suc k) n =
    length-append (last_digits 10 k (n / 10)) (hex_digit_ascii (n % 10) ∷ []) ∙ ap (λ (i : ℕ). i + 1) (length_digits k (n / 10)) ∙ add-one k

-- below 10 ^ m there are at most m digits
few : (most m n : ℕ) → 0 < m → n < 10 ^ m → places_in most n ≤ m
unfolding places_in
few zero m n p h = p
few (suc most) zero n p h = absurd (omega arith)
few (suc most) (suc m) n p h = by (ltb n 10) refl (λ i. few most i (n / 10)) m h
  where
    by : (b : Bool) → ltb n 10 ≡ b → ((i : ℕ) → 0 < i → n / 10 < 10 ^ i → places_in most (n / 10) ≤ i)
        → (i : ℕ) → n < 10 ^ suc i → cond b 1 (suc (places_in most (n / 10))) ≤ suc i
    by true e less i l = omega arith
    by false e less zero l = let t : 10 ≤ n = ltb-false n 10 e in absurd (omega (arith, l))
    by false e less (suc i) l =
        let below : n / 10 < 10 ^ suc i = tenth (suc i) n l in
        omega (arith, less (suc i) (omega arith) below)

pub decimal-short : (m n : ℕ) → 0 < m → n < 10 ^ m → length (decimal n) ≤ m
unfolding decimal
decimal-short m n p h = rw (length_digits (places_in n n) n) (few n m n p h)

pub length-numeral : (n after : ℕ) → length (numeral n after) ≡ length (decimal n) + 1
unfolding numeral
length-numeral n after = length-append (decimal n) (after ∷ [])

-- below 10 ^ m, m digits at most and one byte more
pub numeral-short : (m n after : ℕ) → 0 < m → n < 10 ^ m → length (numeral n after) ≤ m + 1
numeral-short m n after p h = omega (arith, length-numeral n after, decimal-short m n p h)

-- of k digits and one byte more: for a number of 64 bits, at most 20 digits
pub numeral-length : (k n after : ℕ) → Fits w64 n → IsDigitCount 10 1 n k → (length (numeral n after) ≡ k + 1) × (k ≤ 20)
numeral-length k n after h f =
    let l : length (decimal n) ≡ k = sym (ap length (decimal-is k n f)) ∙ length_digits k n in
    let s : length (decimal n) ≤ 20 = decimal-short 20 n (omega arith) (omega (arith, h.fits)) in
    (length-numeral n after ∙ ap (λ (i : ℕ). i + 1) l, omega arith)
