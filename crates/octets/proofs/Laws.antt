-- Laws of the definitions of `specs/Octets.antt`, each stated once for any width or index.
-- Assumes nothing.
use Prim.Native.Nat.{ℕ, zero, suc, ◌+◌, ◌*◌, ◌/◌, ◌%◌, ◌^◌, ◌-◌, ◌<◌, ◌≤◌}
use native.Mathlib.Nat.{pow-suc, pow-le-pow_right, add-zero, add-suc, mul_assoc}
use native.Mathlib.Nat.{not-suc-le-zero, le_of_suc-le-suc, eq-or-lt_of_le, lt_of_lt_of_le, le-add_right, le_refl}
use native.Mathlib.Numerals.{add-one}
use native.Mathlib.Omega.{arith}
use mathlib.Core.Bool.{Bool, true, false, ◌&&◌, false≢true, and-true, and-false, and_assoc}
use mathlib.Core.List.{List, [], ◌∷◌, ◌++◌, append_assoc}
use mathlib.Core.Logic.{⊎_elim, ◌⊎◌, inl, inr}
use mathlib.Core.Path.{◌≡◌, refl, sym, ap, ◌∙◌}
use borrow.Author.Tests.{ne_eqb, eqb-true, eqb-false}
use lib.Bits.{bit_or, bit_xor, or_zero_l, or_add_and, xor_add_and, xor_self, and_le_l, and_le_r}
use lib.Dec.{eqb, lit<, eqb-suc-zero}
use mir.Syntax.{w8}
use mir.Val.{Fits}
use lib.ListN.{length, take, drop, get_or, set, length-append, length-drop, length-set, get_or-append}
use lib.Seq.{paste, paste-zero, paste-suc, length-paste, length_paste_head, take-length, length-take-le, append_snoc, get_or-append-add}
use lib.Seq.{take-set-le, drop-cons, drop-set-lt, get_or-set_same, get_or-take, get_or-drop}
use Rattle.laws.proofs.Bools.{and-cross}
use Rattle.octets.specs.Octets.{AreBytes, number_at, bytes_of, part, put, all, zero_at}

-- ---- numbers

-- every element is a byte, as the check says it of a slice
abbrev pub Bytes : List ℕ → Type 0
Bytes s = (k : ℕ) → Fits w8 (get_or s k 0)

pub are-bytes : (s : List ℕ) → AreBytes s → Bytes s
are-bytes s h k = record { fits = h k }

-- n bytes make a number below 256 ^ n
pub number_lt : (s : List ℕ) (a n : ℕ) → Bytes s → number_at s a n < 256 ^ n
unfolding number_at
number_lt s a zero b = lit< tt
number_lt s a (suc n) b = rw pow-suc (omega (arith, number_lt s a n b, b (a + n)))

-- one byte more still fits 64 bits
pub number-room : (s : List ℕ) (a n : ℕ) → Bytes s → n < 8 → number_at s a n < 256 ^ 7
number-room s a n b h = lt_of_lt_of_le (number_lt s a n b) (pow-le-pow_right (lit< tt) (le_of_suc-le-suc h))

pub number-none : (s : List ℕ) (a : ℕ) → number_at s a 0 ≡ 0
unfolding number_at
number-none s a = refl

pub number_more : (s : List ℕ) (a i : ℕ) → number_at s a (i + 1) ≡ number_at s a i * 256 + get_or s (a + i) 0
unfolding number_at
number_more s a i = rw add-one

-- a number is the first m of its bytes, and the others
pub number-join : (s : List ℕ) (a m n : ℕ) → number_at s a (m + n) ≡ number_at s a m * 256 ^ n + number_at s (a + m) n
unfolding number_at
number-join s a m zero = rw (add-zero m) (omega arith)
number-join s a m (suc n) =
    let e : a + (m + n) ≡ a + m + n = omega arith in
    rw (add-suc, e, number-join s a m n, pow-suc, ← mul_assoc) (omega arith)

pub length-bytes_of : (n v : ℕ) → length (bytes_of n v) ≡ n
unfolding bytes_of
length-bytes_of zero v = refl
length-bytes_of (suc n) v = length-append (bytes_of n (v / 256)) (v % 256 ∷ []) ∙ ap (λ (k : ℕ). k + 1) (length-bytes_of n (v / 256)) ∙ add-one n

-- ---- a test of every number below n

pub all_none : (p : ℕ → Bool) → all 0 p ≡ true
unfolding all
all_none p = refl

pub all_more : (i : ℕ) (p : ℕ → Bool) → all i p ≡ true → p i ≡ true → all (i + 1) p ≡ true
unfolding all
all_more i p h e = rw (add-one, h, e)

pub all-fails : (n i : ℕ) (p : ℕ → Bool) → i < n → p i ≡ false → all n p ≡ false
unfolding all
all-fails zero i p l e = absurd (not-suc-le-zero l)
all-fails (suc n) i p l e =
    ⊎_elim
    (λ (q : i ≡ n). ap (λ (b : Bool). all n p && b) (ap p (sym q) ∙ e) ∙ and-false (all n p))
    (λ (q : i < n). ap (λ (b : Bool). b && p n) (all-fails n i p q e))
    (eq-or-lt_of_le (le_of_suc-le-suc l))

pub all-at : (n i : ℕ) (p : ℕ → Bool) → all n p ≡ true → i < n → p i ≡ true
all-at n i p h l = by (p i) refl
  where
    by : (b : Bool) → p i ≡ b → p i ≡ true
    by true e = e
    by false e = absurd (false≢true (sym (all-fails n i p l e) ∙ h))

pub all-each : (n : ℕ) (p : ℕ → Bool) → ((i : ℕ) → i < n → p i ≡ true) → all n p ≡ true
unfolding all
all-each zero p h = refl
all-each (suc n) p h = rw (all-each n p (λ i l. h i (omega arith)), h n (le_refl _))

pub all-next : (i : ℕ) (p : ℕ → Bool) → all (i + 1) p ≡ (all i p && p i)
unfolding all
all-next i p = rw add-one

-- a test of m + n numbers is one of the first m and one of the others
pub all_join : (m n : ℕ) (p : ℕ → Bool) → all (m + n) p ≡ (all m p && all n (λ i. p (m + i)))
unfolding all
all_join m zero p = rw add-zero (sym (and-true (all m p)))
all_join m (suc n) p = rw (add-suc, all_join m n p, ← and_assoc)

-- tests that agree below n
pub all_same : (n : ℕ) (p q : ℕ → Bool) → ((i : ℕ) → i < n → p i ≡ q i) → all n p ≡ all n q
unfolding all
all_same zero p q h = refl
all_same (suc n) p q h = rw (all_same n p q (λ i l. h i (omega arith)), h n (omega arith))

-- two tests made together
pub all_both : (n : ℕ) (p q : ℕ → Bool) → all n (λ i. p i && q i) ≡ (all n p && all n q)
unfolding all
all_both zero p q = refl
all_both (suc n) p q = rw (all_both n p q, and-cross)

pub zero-join : (s : List ℕ) (a m n : ℕ) → zero_at s a (m + n) ≡ (zero_at s a m && zero_at s (a + m) n)
unfolding zero_at
zero-join s a m n =
    all_join m n _
    ∙ ap (λ (b : Bool). all m (λ i. eqb (get_or s (a + i) 0) 0) && b)
    (all_same n _ _ (λ i l. let e : a + (m + i) ≡ a + m + i = omega arith in rw e))

-- a range is zero when its first m and its last k bytes are, which may overlap
and-twice : (a b c : Bool) → a && b && (b && c) ≡ a && (b && c)
and-twice false b c = refl
and-twice true false c = refl
and-twice true true c = refl

zero-overlap : (s : List ℕ) (a m n k : ℕ) → (zero_at s a (m + n) && zero_at s (a + m) (n + k)) ≡ zero_at s a (m + (n + k))
zero-overlap s a m n k = rw (zero-join s a m n, zero-join s a m (n + k), zero-join s (a + m) n k, and-twice)

pub zero-cover : (s : List ℕ) (a n m k : ℕ) → m ≤ n → k ≤ n → n ≤ m + k → (zero_at s a m && zero_at s (a + (n - k)) k) ≡ zero_at s a n
zero-cover s a n m k p q h =
    let both = m + k - n in
    let first : n - k + both ≡ m = omega arith in
    let last : both + (k - both) ≡ k = omega arith in
    let whole : n - k + k ≡ n = omega arith in
    rw (first, last, whole) at (zero-overlap s a (n - k) both (k - both))

-- a range is zero when its first k bytes are, m bytes from an index b among them or right behind them, and its last r, where none is left out
pub zero-covers : (s : List ℕ) (a n k b m r : ℕ) → a ≤ b → b ≤ a + k → a + k ≤ b + m → b + m ≤ a + n → a + n ≤ b + m + r → r ≤ n
    → (zero_at s a k && zero_at s b m && zero_at s (a + (n - r)) r) ≡ zero_at s a n
zero-covers s a n k b m r low near far inside over short =
    let both = b - a + m in
    let from : a + (both - m) ≡ b = omega arith in
    let start = rw from at (zero-cover s a both k m (omega arith) (omega arith) (omega arith)) in
    rw start (zero-cover s a n both r (omega arith) (omega arith) (omega arith))

-- four ranges of n bytes from index a on, tested side by side
abbrev zero_from : List ℕ → (a i : ℕ) → Bool
zero_from s a i = eqb (get_or s (a + i) 0) 0

abbrev pub four_zero : List ℕ → (a n i : ℕ) → Bool
four_zero s a n i = zero_from s a i && zero_from s (a + n) i && zero_from s (a + n + n) i && zero_from s (a + n + n + n) i

pub zero-four : (s : List ℕ) (a n : ℕ) → all n (four_zero s a n) ≡ zero_at s a (4 * n)
unfolding zero_at
zero-four s a n =
    let e : 4 * n ≡ n + n + n + n = omega arith in
    let third : a + (n + n) ≡ a + n + n = omega arith in
    let fourth : a + (n + n + n) ≡ a + n + n + n = omega arith in
    all_both n (λ i. zero_from s a i && zero_from s (a + n) i && zero_from s (a + n + n) i) (zero_from s (a + n + n + n))
    ∙ rw (
      all_both n (λ i. zero_from s a i && zero_from s (a + n) i) (zero_from s (a + n + n)),
      all_both n (zero_from s a) (zero_from s (a + n)),
      e,
      zero-join s a (n + n + n) n,
      zero-join s a (n + n) n,
      zero-join s a n n,
      third,
      fourth,
    )

-- ---- bytes gathered by `|`: zero exactly when each of them is

pub or-zero : (x y : ℕ) → eqb (bit_or x y) 0 ≡ (eqb x 0 && eqb y 0)
or-zero zero y = rw or_zero_l
or-zero (suc x) y =
    rw (eqb-suc-zero x) (ne_eqb _ _ (λ (e : bit_or (suc x) y ≡ 0). omega (arith, or_add_and (suc x) y, and_le_r (suc x) y)))

pub xor-zero : (x y : ℕ) → eqb (bit_xor x y) 0 ≡ eqb x y
xor-zero x y = by (eqb x y) refl
  where
    by : (b : Bool) → eqb x y ≡ b → eqb (bit_xor x y) 0 ≡ b
    by true e = rw (eqb-true x y e) (rw xor_self refl)
    by false e =
        ne_eqb _ _ (λ (z : bit_xor x y ≡ 0).
        eqb-false x y e (omega (arith, xor_add_and x y, and_le_l x y, and_le_r x y)))

-- one byte more is gathered
pub gathered : (p : ℕ → Bool) (i any x : ℕ) → eqb any 0 ≡ all i p → eqb x 0 ≡ p i → eqb (bit_or any x) 0 ≡ all (i + 1) p
gathered p i any x e f = or-zero any x ∙ rw (e, f, all-next)

-- one byte more of each of four ranges
pub gathered-four : (s : List ℕ) (a n i any : ℕ) → eqb any 0 ≡ all i (four_zero s a n)
    → eqb (bit_or any (bit_or (bit_or (bit_or (get_or s (a + i) 0) (get_or s (a + n + i) 0)) (get_or s (a + n + n + i) 0)) (get_or s (a + n + n + n + i) 0))) 0
    ≡ all (i + 1) (four_zero s a n)
gathered-four s a n i any e = gathered (four_zero s a n) i any _ e (rw (or-zero, or-zero, or-zero))

-- ---- a part replaced, byte by byte

pub put-none : (s : List ℕ) (a : ℕ) → put s a [] ≡ s
unfolding put
put-none s a = sym (paste-zero s a [])

-- where no byte is left to write
pub put-zero : (s : List ℕ) (a n v : ℕ) → n ≡ 0 → put s a (bytes_of n v) ≡ s
unfolding bytes_of
put-zero s a n v e = rw e (put-none s a)

pub put_all : (s : List ℕ) (a : ℕ) (v : List ℕ) → paste s a v (length v) ≡ put s a v
unfolding put
put_all s a v = rw take-length

pub length-put : (s : List ℕ) (a : ℕ) (v : List ℕ) → a + length v ≤ length s → length (put s a v) ≡ length s
length-put s a v h = rw (← put_all) (length-paste s a v (length v) h (omega arith))

-- i of the bytes of v are put in
unfoldable pub putting : List ℕ → ℕ → List ℕ → ℕ → List ℕ
putting s a v i = paste s a v i

pub putting-none : (s : List ℕ) (a : ℕ) (v : List ℕ) → s ≡ putting s a v 0
unfolding putting
putting-none s a v = paste-zero s a v

pub putting-more : {s : List ℕ} (s₀ : List ℕ) (a : ℕ) (v : List ℕ) (i x : ℕ) → s ≡ putting s₀ a v i → get_or v i 0 ≡ x → a + i < length s₀ → i < length v
    → set s (a + i) x ≡ putting s₀ a v (i + 1)
unfolding putting
putting-more s₀ a v i x e g h l = rw (e, ← g, add-one, paste-suc s₀ a v i 0)

pub putting-all : {s : List ℕ} (s₀ : List ℕ) (a : ℕ) (v : List ℕ) (i : ℕ) → s ≡ putting s₀ a v i → length v ≡ i → s ≡ put s₀ a v
unfolding putting
putting-all s₀ a v i e l = e ∙ rw (← l) (put_all s₀ a v)

-- the last of n big-endian bytes is stored first
pub put-number : (s : List ℕ) (a n v : ℕ) → 0 < n → a + n ≤ length s
    → put (set s (a + (n - 1)) (v % 256)) a (bytes_of (n - 1) (v / 256)) ≡ put s a (bytes_of n v)
unfolding put bytes_of
put-number s a zero v p h = absurd (not-suc-le-zero p)
put-number s a (suc n) v p h =
    let m : suc n - 1 ≡ n = omega arith in
    let l : a + n < length s = omega arith in
    let b = v % 256 in
    let tail : drop (a + n) (set s (a + n) b) ≡ b ∷ drop (suc (a + n)) s =
    drop-cons (set s (a + n) b) (a + n) 0 (rw length-set l) ∙ rw (get_or-set_same s (a + n) b 0, drop-set-lt (suc (a + n)) s (a + n) b (le_refl _)) in
    let next : a + (n + 1) ≡ suc (a + n) = omega arith in
    let above = bytes_of n (v / 256) in
    rw (m, take-set-le a s (a + n) b (le-add_right a n), length-append, length-bytes_of, tail, next, ← append_assoc (take a s) above, append_snoc)

-- an element of the second of two lists
pub get_d_past : (p q : List ℕ) (n k : ℕ) → length p ≡ n → n ≤ k → get_or (p ++ q) k 0 ≡ get_or q (k - n) 0
get_d_past p q n k l h =
    let e : length p + (k - n) ≡ k = omega arith in
    ap (λ (m : ℕ). get_or (p ++ q) m 0) (sym e) ∙ get_or-append-add p q (k - n) 0

-- a byte outside of what has been replaced is as it was
pub putting-outside : (s : List ℕ) (a : ℕ) (v : List ℕ) (i k : ℕ) → a + i ≤ length s → i ≤ length v → (k < a) ⊎ (a + i ≤ k)
    → get_or (putting s a v i) k 0 ≡ get_or s k 0
unfolding putting
putting-outside s a v i k h l (inl q) =
    let la : length (take a s) ≡ a = length-take-le a s (omega arith) in
    let head = get_or-append (take a s ++ take i v) (drop (a + i) s) 0 k (rw length-append (omega arith)) in
    rw (head, get_or-append (take a s) (take i v) 0 k (omega arith), get_or-take)
putting-outside s a v i k h l (inr q) =
    let e : a + i + (k - (a + i)) ≡ k = omega arith in
    rw (get_d_past (take a s ++ take i v) (drop (a + i) s) (a + i) k (length_paste_head s a v i (omega arith) l) q, get_or-drop, e)

-- ---- a part

pub length_part : (s : List ℕ) (a n : ℕ) → a + n ≤ length s → length (part s a n) ≡ n
unfolding part
length_part s a n h = length-take-le n (drop a s) (rw length-drop (omega arith))

pub part_at : (s : List ℕ) (a n i : ℕ) → i < n → get_or (part s a n) i 0 ≡ get_or s (a + i) 0
unfolding part
part_at s a n i h = rw (get_or-take, get_or-drop)
