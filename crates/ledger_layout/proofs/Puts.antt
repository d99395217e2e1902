-- What stands where after a part is written; and parts that are lent and come back. Assumes nothing.
use Prim.Native.Nat.{ℕ, ◌+◌, ◌≤◌, ◌<◌}
use native.Mathlib.Omega.{arith}
use mathlib.Core.List.{List, ◌++◌, append_assoc}
use mathlib.Core.Path.{◌≡◌, sym, ap, ◌∙◌}
use lib.ListN.{length, take, drop, get_or, take-append-drop, get_or-append}
use mathlib.Core.Logic.{◌⊎◌, inl, inr, ⊎_elim}
use lib.Seq.{length-take-le, drop-drop, take-add, ext_get_or, get_or-append-add}
use Rattle.octets.specs.Octets.{part, put}
use Rattle.octets.proofs.Laws.{length_part, part_at, length-put, put_all, putting, putting-outside}

-- what stands outside of the part put in, and inside
pub put-outside : (s : List ℕ) (a : ℕ) (v : List ℕ) (k : ℕ) → a + length v ≤ length s → (k < a) ⊎ (a + length v ≤ k) → get_or (put s a v) k 0 ≡ get_or s k 0
unfolding putting
put-outside s a v k h o = rw (← put_all) (putting-outside s a v (length v) k h (omega arith) o)

pub put-inside : (s : List ℕ) (a : ℕ) (v : List ℕ) (i : ℕ) → a ≤ length s → i < length v → get_or (put s a v) (a + i) 0 ≡ get_or v i 0
unfolding put
put-inside s a v i h l =
    let e = length-take-le a s h in
    let at : get_or (take a s ++ (v ++ drop (a + length v) s)) (a + i) 0 ≡ get_or (v ++ drop (a + length v) s) i 0 =
    ap (λ (n : ℕ). get_or (take a s ++ (v ++ drop (a + length v) s)) (n + i) 0) (sym e) ∙ get_or-append-add (take a s) (v ++ drop (a + length v) s) i 0 in
    rw append_assoc (at ∙ get_or-append v (drop (a + length v) s) 0 i l)

-- a part that ends before what is put in, or begins behind it
pub part_apart : (s : List ℕ) (a : ℕ) (v : List ℕ) (b n : ℕ) → a + length v ≤ length s → b + n ≤ length s → (b + n ≤ a) ⊎ (a + length v ≤ b)
    → part (put s a v) b n ≡ part s b n
part_apart s a v b n l m o =
    let lp : length (part (put s a v) b n) ≡ n = length_part (put s a v) b n (rw (length-put s a v l) m) in
    ext_get_or 0 (part (put s a v) b n) (part s b n) (lp ∙ sym (length_part s b n m)) (λ i q.
    let k : i < n = omega arith in
    part_at (put s a v) b n i k
    ∙ put-outside s a v (b + i) l (⊎_elim (λ (x : b + n ≤ a). inl (omega arith)) (λ (x : a + length v ≤ b). inr (omega arith)) o)
    ∙ sym (part_at s b n i k))

pub part-before : (s : List ℕ) (a : ℕ) (v : List ℕ) (b n : ℕ) → b + n ≤ a → a + length v ≤ length s → part (put s a v) b n ≡ part s b n
part-before s a v b n h l = part_apart s a v b n l (omega arith) (inl h)

-- the part put in
pub part-put : (s : List ℕ) (a : ℕ) (v : List ℕ) (n : ℕ) → length v ≡ n → a + n ≤ length s → part (put s a v) a n ≡ v
part-put s a v n e h =
    let lp : length (part (put s a v) a n) ≡ n = length_part (put s a v) a n (rw (length-put s a v (omega arith)) h) in
    ext_get_or 0 (part (put s a v) a n) v (lp ∙ sym e) (λ i q.
    part_at (put s a v) a n i (omega arith) ∙ put-inside s a v i (omega arith) (omega arith))

-- a part put in again where it stands
pub put_same : (s : List ℕ) (a n : ℕ) → a + n ≤ length s → put s a (part s a n) ≡ s
unfolding put part
put_same s a n h = rw (length_part s a n h, ← take-add, take-append-drop)

-- a list that has a part's elements is that part
pub part-is : (xs s : List ℕ) (a n : ℕ) → length xs ≡ n → a + n ≤ length s → ((j : ℕ) → j < n → get_or xs j 0 ≡ get_or s (a + j) 0) → xs ≡ part s a n
part-is xs s a n l h e =
    ext_get_or 0 xs (part s a n) (l ∙ sym (length_part s a n h)) (λ i q.
    let m : i < n = omega arith in
    e i m ∙ sym (part_at s a n i m))

-- a part that was lent and came back changed is put into the whole
pub lent_back : {A : Type 0} (s : List ℕ) (a k n : ℕ) (f : List ℕ → A × List ℕ) {r : A} {v : List ℕ} → k ≡ n → length v ≡ n
    → ◌≡◌ {A = A × List ℕ} (r, v) (f (take k (drop a s)))
    → ◌≡◌ {A = A × List ℕ} (r, take a s ++ (v ++ drop k (drop a s))) ((f (part s a n)).0, put s a (f (part s a n)).1)
unfolding put part
lent_back {A} s a k n f {r} {v} e l h =
    let same : ◌≡◌ {A = A × List ℕ} (r, v) (f (take n (drop a s))) = rw (← e) h in
    rw (← same, e, drop-drop, l, append_assoc)
