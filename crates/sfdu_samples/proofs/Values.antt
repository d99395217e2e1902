-- A sample's value and its code, at every width. Assumes nothing.
use Rattle.std.proofs.Common.{◌≡◌, ℕ, zero, suc, ◌+◌, ◌-◌, ◌*◌, ◌/◌, ◌%◌, ◌^◌, ◌<◌, ◌≤◌, Bool, true, false, ◌&&◌, eqb, ltb, ℤ, pos, negsuc, ◌+ℤ◌, ◌-ℤ◌, ◌*ℤ◌}
use Rattle.std.proofs.Common.{neg_ℤ, sym, refl, ap, ◌∙◌, not-suc-le-zero, mod-eq_of_lt, mul_assoc, suc-mul, add-mul, pow-suc, arith, lit<, ltb-false}
use Rattle.std.proofs.Common.{ltb-true, le-ltb, lt-ltb, eq-eqb, ne_eqb, eqb-true}
use native.Mathlib.Nat.{pow-zero, pow-le-pow_right, add-mul-mod_self_right, one-le-pow}
use mathlib.Core.Bool.{false≢true, and-true, and-false}
use borrow.Author.Tests.{eqb-false}
use Rattle.laws.proofs.Bools.{and_split}
use Rattle.sfdu_samples.specs.Packing.{twos, value_of, has_code, code_of, per_half}
use Rattle.sfdu_samples.specs.inner.Unpacking.{raised}
use Rattle.sfdu_samples.specs.inner.Widths.{IsWidth}

-- ---- integers

pub minus : (a b : ℕ) → a < b → pos a -ℤ pos b ≡ negsuc (b - suc a)
minus a zero h = absurd (not-suc-le-zero h)
minus a (suc b) h = rw (lt-ltb a (suc b) h)

pub negated : (n : ℕ) → 0 < n → neg_ℤ (pos n) ≡ negsuc (n - 1)
negated zero h = absurd (not-suc-le-zero h)
negated (suc n) h = ap negsuc (omega arith)

-- ---- the count of codes

pub doubled : (w : ℕ) → 0 < w → 2 ^ w ≡ 2 * 2 ^ (w - 1)
doubled zero h = absurd (not-suc-le-zero h)
doubled (suc n) h = let e : suc n - 1 ≡ n = omega arith in rw (e, pow-suc) (omega arith)

pub codes-some : (w : ℕ) → 0 < 2 ^ w
codes-some w = one-le-pow w 2 (lit< tt)

pub codes-most : (w : ℕ) → w ≤ 16 → 2 ^ w ≤ 65536
codes-most w h = pow-le-pow_right {n = 2} (lit< tt) {i = w} {j = 16} h

-- Half of what a number is raised by is a multiple of the codes.
pub record Multiple (b : ℕ) : Type 0 where
  pub rest : ℕ
  pub is : 1073741824 ≡ b + rest * b

multiple-of : (b n : ℕ) → 0 < b → b ^ n ≡ 65536 → Multiple b
multiple-of b zero p e = absurd (false≢true (cc (pow-zero b, e)))
multiple-of b (suc n) p e = by (b ^ n) (one-le-pow n b p) (sym (pow-suc b n) ∙ e)
  where
    by : (m : ℕ) → 0 < m → m * b ≡ 65536 → Multiple b
    by zero q f = absurd (not-suc-le-zero q)
    by (suc m) q f =
        let e : (16383 + 16384 * m) * b ≡ 16383 * b + 16384 * (m * b) = add-mul 16383 (16384 * m) b ∙ rw mul_assoc in
        record { rest = 16383 + 16384 * m; is = omega (arith, e, f, suc-mul m b) }

pub multiple : (w : ℕ) → IsWidth w → Multiple (2 ^ w)
multiple w h = multiple-of (2 ^ w) (per_half w) (codes-some w) h.whole

-- ---- values

pub value_low : (w c : ℕ) → c < 2 ^ (w - 1) → value_of w c ≡ pos (2 * c + 1)
unfolding value_of twos
value_low w c h = rw (lt-ltb _ _ h)

twice-one : (m : ℕ) → pos 2 *ℤ negsuc m +ℤ pos 1 ≡ negsuc (2 * m)
twice-one m =
    let p : 0 < 2 * suc m = omega arith in
    let q : 1 < suc (2 * suc m - 1) = omega arith in
    rw (negated (2 * suc m) p, lt-ltb 1 (suc (2 * suc m - 1)) q) (ap negsuc (omega arith))

pub value-high : (w c : ℕ) → 2 ^ (w - 1) ≤ c → c < 2 ^ w → value_of w c ≡ negsuc (2 * (2 ^ w - suc c))
unfolding value_of twos
value-high w c l h = rw (le-ltb _ _ l, minus c (2 ^ w) h) (twice-one (2 ^ w - suc c))

-- ---- a value's code, and a code's value

pub record Coded (w c : ℕ) (z : ℤ) : Type 0 where
  pub has : has_code w z ≡ true
  pub code : code_of w z ≡ c

code-low : (w c : ℕ) → 0 < w → c < 2 ^ (w - 1) → Coded w c (pos (2 * c + 1))
unfolding has_code code_of
code-low w c s l =
    let d = doubled w s in
    let odd : (2 * c + 1) % 2 ≡ 1 = omega arith in
    record { has = rw (odd, lt-ltb (2 * c + 1) (2 ^ w) (omega arith)); code = omega arith }

code-high : (w c : ℕ) → 0 < w → 2 ^ (w - 1) ≤ c → c < 2 ^ w → Coded w c (negsuc (2 * (2 ^ w - suc c)))
unfolding has_code code_of
code-high w c s l h =
    let d = doubled w s in
    let even : (2 * (2 ^ w - suc c)) % 2 ≡ 0 = omega arith in
    record { has = rw (even, lt-ltb (2 * (2 ^ w - suc c)) (2 ^ w) (omega arith)); code = omega arith }

pub value-code : (w c : ℕ) → 0 < w → c < 2 ^ w → Coded w c (value_of w c)
value-code w c s h = by (ltb c (2 ^ (w - 1))) refl
  where
    by : (t : Bool) → ltb c (2 ^ (w - 1)) ≡ t → Coded w c (value_of w c)
    by true e = let l = ltb-true c _ e in rw (value_low w c l) (code-low w c s l)
    by false e = let l = ltb-false c _ e in rw (value-high w c l h) (code-high w c s l h)

-- The code of a number that has one, and its value.
pub record Back (w : ℕ) (z : ℤ) : Type 0 where
  pub less : code_of w z < 2 ^ w
  pub value : value_of w (code_of w z) ≡ z

back-pos : (w n : ℕ) → 0 < w → n % 2 ≡ 1 → n < 2 ^ w → Back w (pos n)
unfolding code_of
back-pos w n s o l =
    let d = doubled w s in
    record { less = omega arith; value = value_low w (n / 2) (omega arith) ∙ ap pos (omega arith) }

back-neg : (w n : ℕ) → 0 < w → n % 2 ≡ 0 → n < 2 ^ w → Back w (negsuc n)
unfolding code_of
back-neg w n s o l =
    let d = doubled w s in
    let low : 2 ^ (w - 1) ≤ 2 ^ w - suc (n / 2) = omega arith in
    let less : 2 ^ w - suc (n / 2) < 2 ^ w = omega arith in
    record { less = less; value = value-high w (2 ^ w - suc (n / 2)) low less ∙ ap negsuc (omega arith) }

pub code-value : (w : ℕ) (z : ℤ) → 0 < w → has_code w z ≡ true → Back w z
unfolding has_code
code-value w (pos n) s h =
    let b = and_split (eqb (n % 2) 1) (ltb n (2 ^ w)) h in
    back-pos w n s (eqb-true _ _ b.0) (ltb-true _ _ b.1)
code-value w (negsuc n) s h =
    let b = and_split (eqb (n % 2) 0) (ltb n (2 ^ w)) h in
    back-neg w n s (eqb-true _ _ b.0) (ltb-true _ _ b.1)

-- ---- a number raised: an odd number near zero, and its code

abbrev raised_has : (b u : ℕ) → Bool
raised_has b u = eqb (u % 2) 1 && ltb (2147483648 - b) u && ltb u (2147483648 + b)

raised-pos : (b n : ℕ) → 0 < b → raised_has b (n + 2147483648) ≡ (eqb (n % 2) 1 && ltb n b)
raised-pos b n p =
    let e : (n + 2147483648) % 2 ≡ n % 2 = omega arith in
    rw (e, lt-ltb (2147483648 - b) (n + 2147483648) (omega arith), and-true) (by (ltb n b) refl)
  where
    by : (t : Bool) → ltb n b ≡ t → (eqb (n % 2) 1 && ltb (n + 2147483648) (2147483648 + b)) ≡ (eqb (n % 2) 1 && ltb n b)
    by true t = let l = ltb-true n b t in rw (lt-ltb (n + 2147483648) (2147483648 + b) (omega arith), t)
    by false t = let l = ltb-false n b t in rw (le-ltb (n + 2147483648) (2147483648 + b) (omega arith), t)

raised-neg : (b n : ℕ) → b % 2 ≡ 0 → b ≤ 65536 → raised_has b (2147483648 - suc n) ≡ (eqb (n % 2) 0 && ltb n b)
raised-neg b n p m = by (ltb n b) (eqb (n % 2) 0) refl refl
  where
    by : (t o : Bool) → ltb n b ≡ t → eqb (n % 2) 0 ≡ o → raised_has b (2147483648 - suc n) ≡ (eqb (n % 2) 0 && ltb n b)
    by true true t o =
        let l = ltb-true n b t in
        let e = eqb-true (n % 2) 0 o in
        rw (
          o,
          t,
          eq-eqb ((2147483648 - suc n) % 2) 1 (omega arith),
          lt-ltb (2147483648 - b) (2147483648 - suc n) (omega arith),
          lt-ltb (2147483648 - suc n) (2147483648 + b) (omega arith),
        )
    by true false t o =
        let l = ltb-true n b t in
        let e : n % 2 ≡ 0 → ⊥ = eqb-false (n % 2) 0 o in
        rw (o, ne_eqb ((2147483648 - suc n) % 2) 1 (λ (z : (2147483648 - suc n) % 2 ≡ 1). e (omega arith)))
    by false o t _ =
        let l = ltb-false n b t in
        rw (t, le-ltb (2147483648 - b) (2147483648 - suc n) (omega arith), and-false, and-false)

codes-even : (w : ℕ) → 0 < w → 2 ^ w % 2 ≡ 0
codes-even w s = let d = doubled w s in omega arith

pub raised-has : (w : ℕ) (z : ℤ) → IsWidth w → raised_has (2 ^ w) (raised z) ≡ has_code w z
unfolding has_code raised
raised-has w (pos n) m = raised-pos (2 ^ w) n (codes-some w)
raised-has w (negsuc n) m = raised-neg (2 ^ w) n (codes-even w m.some) (codes-most w m.most)

within : (b a t : ℕ) → a < b → (a + t * b) % b ≡ a
within b a t l = add-mul-mod_self_right a t b ∙ mod-eq_of_lt l

raised-code-pos : (b n : ℕ) → Multiple b → n < b → (n + 2147483648) / 2 % b ≡ n / 2
raised-code-pos b n m l =
    let s = m.is in
    let e : (n + 2147483648) / 2 ≡ n / 2 + suc m.rest * b = rw suc-mul (omega arith) in
    rw e (within b (n / 2) (suc m.rest) (omega arith))

raised-code-neg : (b n : ℕ) → Multiple b → n % 2 ≡ 0 → n < b → (2147483648 - suc n) / 2 % b ≡ b - suc (n / 2)
raised-code-neg b n m o l =
    let s = m.is in
    let e : (2147483648 - suc n) / 2 ≡ b - suc (n / 2) + m.rest * b = omega arith in
    rw e (within b (b - suc (n / 2)) m.rest (omega arith))

pub raised-code : (w : ℕ) (z : ℤ) → IsWidth w → has_code w z ≡ true → raised z / 2 % 2 ^ w ≡ code_of w z
unfolding has_code code_of raised
raised-code w (pos n) h c =
    let b = and_split (eqb (n % 2) 1) (ltb n (2 ^ w)) c in
    raised-code-pos (2 ^ w) n (multiple w h) (ltb-true _ _ b.1)
raised-code w (negsuc n) h c =
    let b = and_split (eqb (n % 2) 0) (ltb n (2 ^ w)) c in
    raised-code-neg (2 ^ w) n (multiple w h) (eqb-true _ _ b.0) (ltb-true _ _ b.1)
