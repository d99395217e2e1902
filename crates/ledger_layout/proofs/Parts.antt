-- Parts of parts, and a part that is put into a part. Each law once, over the width. Assumes nothing.
use Prim.Native.Nat.{ℕ, zero, suc, ◌+◌, ◌≤◌}
use native.Mathlib.Omega.{arith}
use mathlib.Core.List.{List, [], ◌∷◌, ◌++◌, append_assoc}
use mathlib.Core.Path.{◌≡◌, refl, sym, ap, ◌∙◌}
use lib.ListN.{length, take, drop, length-append, take-append-drop}
use lib.Seq.{take-take, drop-drop, take-append-le, drop-append-le, length-take-le, take-nil}
use Rattle.octets.specs.Octets.{number_at, part, put}
use Rattle.octets.proofs.Laws.{length_part, part_at}
use Rattle.octets.proofs.Puts.{put-seam}

-- ---- in a part

pub number-within : (s : List ℕ) (a m j n k : ℕ) → a + j ≡ k → j + n ≤ m → number_at (part s a m) j n ≡ number_at s k n
unfolding number_at
number-within s a m j zero k e l = refl
number-within s a m j (suc n) k e l =
    let at : a + (j + n) ≡ k + n = omega arith in
    rw (number-within s a m j n k e (omega arith), part_at s a m (j + n) (omega arith), at)

take_within : (x : List ℕ) (m j n : ℕ) → j + n ≤ m → take n (drop j (take m x)) ≡ take n (drop j x)
take_within x m zero n l = take-take n m x (omega arith)
take_within [] m (suc j) n l = rw take-nil
take_within (y ∷ x) zero (suc j) n l = absurd (omega arith)
take_within (y ∷ x) (suc m) (suc j) n l = take_within x m j n (omega arith)

pub part-within : (s : List ℕ) (a m j n k : ℕ) → a + j ≡ k → j + n ≤ m → part (part s a m) j n ≡ part s k n
unfolding part
part-within s a m j n k e l = rw (← e, take_within (drop a s) m j n l, drop-drop)

-- a list is what stands before its part, the part, and what stands after
part-split : (s : List ℕ) (a n : ℕ) → s ≡ take a s ++ (part s a n ++ drop n (drop a s))
unfolding part
part-split s a n = sym (ap (λ (t : List ℕ). take a s ++ t) (take-append-drop n (drop a s)) ∙ take-append-drop a s)

-- what is put into a part is put into the list
pub put-within : (s : List ℕ) (a m j : ℕ) (v : List ℕ) → j + length v ≤ m → a + m ≤ length s
    → put s (a + j) v ≡ put s a (put (part s a m) j v)
put-within s a m j v l h =
    let p = take a s in
    let q = drop m (drop a s) in
    let c = part s a m in
    let lc = length_part s a m h in
    let c1 = take j c in
    let c2 = part c j (length v) in
    let c3 = drop (length v) (drop j c) in
    let lp : length p ≡ a = length-take-le a s (omega arith) in
    let l1 : length c1 ≡ j = length-take-le j c (omega arith) in
    let l2 : length c2 ≡ length v = length_part c j (length v) (omega arith) in
    let split-s = part-split s a m in
    let split-c = part-split c j (length v) in
    let inner : put c j v ≡ c1 ++ (v ++ c3) = ap (λ (t : List ℕ). put t j v) split-c ∙ put-seam c1 c2 c3 v j l1 l2 in
    let whole : s ≡ (p ++ c1) ++ (c2 ++ (c3 ++ q)) =
    split-s ∙ ap (λ (t : List ℕ). p ++ (t ++ q)) split-c ∙ simp append_assoc in
    let same : length c ≡ length (put c j v) = ap length split-c ∙ simp (length-append, inner, l2) in
    ap (λ (t : List ℕ). put t (a + j) v) whole
    ∙ put-seam (p ++ c1) c2 (c3 ++ q) v (a + j) (rw length-append (omega arith)) l2
    ∙ (simp append_assoc (simp append_assoc at (sym (ap (λ (t : List ℕ). p ++ (t ++ q)) inner))))
    ∙ sym (ap (λ (t : List ℕ). put t a (put c j v)) split-s ∙ put-seam p c q (put c j v) a lp same)

-- what is put into the first of two lists
pub put_first : (s t : List ℕ) (a : ℕ) (v : List ℕ) → a + length v ≤ length s → put (s ++ t) a v ≡ put s a v ++ t
unfolding put
put_first s t a v h =
    rw (take-append-le a s t (omega arith), drop-append-le (a + length v) s t h) (sym (append_assoc (take a s ++ v) (drop (a + length v) s) t))
