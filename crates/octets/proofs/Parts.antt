-- Numbers read where they were written; and parts of a list of bytes: joined, zero, equal. Each law is stated once for any width.
-- Assumes nothing.
use Prim.Native.Nat.{ℕ, zero, suc, ◌+◌, ◌-◌, ◌*◌, ◌/◌, ◌%◌, ◌^◌, ◌<◌, ◌≤◌}
use native.Mathlib.Nat.{zero-add, pow-suc, div-add-mod', div-lt_iff_lt-mul}
use native.Mathlib.Omega.{arith}
use mathlib.Core.Bool.{true}
use mathlib.Core.List.{List, [], ◌∷◌, ◌++◌}
use mathlib.Core.Path.{◌≡◌, refl, sym, ap, ◌∙◌}
use lib.Dec.{eqb, lit<}
use lib.ListN.{length, get_or, take, drop, replicate, length-replicate, get_or-replicate, length-drop, get_or-append}
use lib.Seq.{take-add, drop-drop, take-suc, ext_get_or, get_or-drop, take-length, get_or-append-add, get_or_at}
use lib.Seq.{take-append-le, drop-append-le, drop-append-add, take_at, drop_at}
use borrow.Author.Tests.{eqb-true, eq-eqb}
use Rattle.octets.specs.Octets.{number_at, bytes_of, part, zero_at, same_at}
use Rattle.octets.proofs.Laws.{Bytes, length-bytes_of, length_part, part_at, all-at, all-each}

-- ---- numbers

-- in the first of two lists, and in the second
pub number-first : (s t : List ℕ) (a n : ℕ) → a + n ≤ length s → number_at (s ++ t) a n ≡ number_at s a n
unfolding number_at
number-first s t a zero h = refl
number-first s t a (suc n) h = rw (number-first s t a n (omega arith), get_or-append s t 0 (a + n) (omega arith))

pub number-second : (s t : List ℕ) (a b n : ℕ) → length s + b ≡ a → number_at (s ++ t) a n ≡ number_at t b n
unfolding number_at
number-second s t a b zero e = refl
number-second s t a b (suc n) e =
    let k : a + n ≡ length s + (b + n) = omega arith in
    rw (number-second s t a b n e, k, get_or-append-add)

-- what was written is read back: a number that n bytes hold
pub number-bytes : (n v : ℕ) → v < 256 ^ n → number_at (bytes_of n v) 0 n ≡ v
unfolding number_at bytes_of
number-bytes zero v h = omega arith
number-bytes (suc n) v h =
    let l = length-bytes_of n (v / 256) in
    let q : v / 256 < 256 ^ n = (div-lt_iff_lt-mul (lit< tt)).1 (rw pow-suc at h) in
    let above = bytes_of n (v / 256) in
    let first = number-first above (v % 256 ∷ []) 0 n (omega arith) in
    rw (first, number-bytes n (v / 256) q, zero-add, get_or_at above (v % 256) [] 0 n l) (div-add-mod' v 256)

-- what was read is written back
pub bytes-number : (s : List ℕ) (a n : ℕ) → Bytes s → a + n ≤ length s → bytes_of n (number_at s a n) ≡ part s a n
unfolding bytes_of number_at part
bytes-number s a zero h l = refl
bytes-number s a (suc n) h l =
    let above : (number_at s a n * 256 + get_or s (a + n) 0) / 256 ≡ number_at s a n = omega (arith, h (a + n)) in
    let last : (number_at s a n * 256 + get_or s (a + n) 0) % 256 ≡ get_or s (a + n) 0 = omega (arith, h (a + n)) in
    rw (above, last, bytes-number s a n h (omega arith), take-suc (drop a s) n 0 (rw length-drop (omega arith)), get_or-drop)

-- ---- parts

pub part_join : (s : List ℕ) (a m b n k : ℕ) → a + m ≡ b → m + n ≡ k → part s a m ++ part s b n ≡ part s a k
unfolding part
part_join s a m b n k e q = rw (← e, ← q, ← drop-drop, ← take-add)

pub part-whole : (s : List ℕ) (n : ℕ) → length s ≡ n → part s 0 n ≡ s
unfolding part
part-whole s n e = rw (← e, take-length)

-- a part of the first of two lists, and of the second
pub part-first : (s t : List ℕ) (a n : ℕ) → a + n ≤ length s → part (s ++ t) a n ≡ part s a n
unfolding part
part-first s t a n h = rw (drop-append-le a s t (omega arith), take-append-le n (drop a s) t (rw length-drop (omega arith)))

pub part-second : (s t : List ℕ) (a b n : ℕ) → length s + b ≡ a → part (s ++ t) a n ≡ part t b n
unfolding part
part-second s t a b n e = rw (← e, drop-append-add)

-- what stands between two lists
pub part-seam : (p c q : List ℕ) (a n : ℕ) → length p ≡ a → length c ≡ n → part (p ++ (c ++ q)) a n ≡ c
unfolding part
part-seam p c q a n l e = rw (drop_at p (c ++ q) a l, take_at c q n e)

-- a part of bytes is bytes
bytes_take : (n : ℕ) (s : List ℕ) → Bytes s → Bytes (take n s)
bytes_take zero s h k = record { fits = lit< tt }
bytes_take (suc n) [] h k = record { fits = lit< tt }
bytes_take (suc n) (x ∷ s) h zero = h 0
bytes_take (suc n) (x ∷ s) h (suc k) = bytes_take n s (λ j. h (suc j)) k

pub bytes-part : (s : List ℕ) (a n : ℕ) → Bytes s → Bytes (part s a n)
unfolding part
bytes-part s a n h = bytes_take n (drop a s) (λ k. rw get_or-drop (h (a + k)))

-- ---- zero, and equal

pub zero-at : (s : List ℕ) (a n i k : ℕ) → zero_at s a n ≡ true → i < n → a + i ≡ k → get_or s k 0 ≡ 0
unfolding zero_at
zero-at s a n i k h l e = rw (← e) (eqb-true _ _ (all-at n i (λ j. eqb (get_or s (a + j) 0) 0) h l))

pub zero-part : (s : List ℕ) (a n : ℕ) → a + n ≤ length s → zero_at s a n ≡ true → part s a n ≡ replicate n 0
zero-part s a n l h =
    ext_get_or 0 (part s a n) (replicate n 0) (length_part s a n l ∙ sym (length-replicate n 0)) (λ i q.
    let b : i < n = omega (arith, length_part s a n l) in
    part_at s a n i b ∙ zero-at s a n i (a + i) h b refl ∙ sym (get_or-replicate n i 0 0 b))

pub same-part : (s : List ℕ) (a : ℕ) (t : List ℕ) (b n : ℕ) → a + n ≤ length s → b + n ≤ length t → same_at s a t b n ≡ true
    → part s a n ≡ part t b n
unfolding same_at
same-part s a t b n la lb h =
    ext_get_or 0 (part s a n) (part t b n) (length_part s a n la ∙ sym (length_part t b n lb)) (λ i q.
    let l : i < n = omega (arith, length_part s a n la) in
    part_at s a n i l ∙ eqb-true _ _ (all-at n i _ h l) ∙ sym (part_at t b n i l))

pub part_same : (s : List ℕ) (a : ℕ) (t : List ℕ) (b n : ℕ) → part s a n ≡ part t b n → same_at s a t b n ≡ true
unfolding same_at
part_same s a t b n e =
    all-each n _ (λ i l. eq-eqb _ _ (sym (part_at s a n i l) ∙ ap (λ (x : List ℕ). get_or x i 0) e ∙ part_at t b n i l))

-- ---- the part that a slice `s[a..a + n]` lends

pub lent : (a n : ℕ) (s : List ℕ) → take (a + n - a) (drop a s) ≡ part s a n
unfolding part
lent a n s = let e : a + n - a ≡ n = omega arith in rw e refl

pub length-lent : (s : List ℕ) (a n : ℕ) → a + n ≤ length s → length (take (a + n - a) (drop a s)) ≡ n
length-lent s a n h = rw lent (length_part s a n h)

pub lent_at : (s : List ℕ) (a n i : ℕ) → a + n ≤ length s → i < length (take (a + n - a) (drop a s))
    → get_or (take (a + n - a) (drop a s)) i 0 ≡ get_or s (a + i) 0
lent_at s a n i h l = rw lent (part_at s a n i (omega (arith, length-lent s a n h)))
