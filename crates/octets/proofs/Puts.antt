-- Parts written one after the other, and a part that is lent and comes back. Assumes nothing.
use Prim.Native.Nat.{ℕ, ◌+◌, ◌-◌, ◌≤◌, ◌<◌}
use native.Mathlib.Nat.{zero-add}
use native.Mathlib.Numerals.{add-one}
use native.Mathlib.Omega.{arith}
use mathlib.Core.List.{List, [], ◌∷◌, ◌++◌, append_assoc, append-nil}
use mathlib.Core.Path.{◌≡◌, refl, sym, ap, ◌∙◌}
use lib.ListN.{length, take, drop, set, length-append, length-drop}
use lib.Seq.{sets, sets-eq, take_at, drop_at, take_all, take-length, drop-length, drop-drop, length-take-le, set_split, append_snoc, drop-append-add}
use Rattle.octets.specs.Octets.{put}

-- all of a list replaced
pub put_whole : (s v : List ℕ) → length v ≡ length s → put s 0 v ≡ v
unfolding put
put_whole s v e = rw (zero-add, e, drop-length) (append-nil v)

-- what is put behind what was just put
pub put-put : (s : List ℕ) (a : ℕ) (v : List ℕ) (b : ℕ) (w : List ℕ) → a + length v ≡ b → b + length w ≤ length s
    → put (put s a v) b w ≡ put s a (v ++ w)
unfolding put
put-put s a v b w e h =
    let l : length (take a s ++ v) ≡ b = length-append (take a s) v ∙ ap (λ (n : ℕ). n + length v) (length-take-le a s (omega arith)) ∙ e in
    let t : take b (take a s ++ v ++ drop b s) ≡ take a s ++ v = take_at (take a s ++ v) (drop b s) b l in
    let d : drop (b + length w) (take a s ++ v ++ drop b s) ≡ drop (b + length w) s =
    rw (← l, drop-append-add, l, drop-drop) in
    let n : a + length (v ++ w) ≡ b + length w = omega (arith, length-append v w) in
    rw (e, t, d, n, ← append_assoc (take a s) v w)

-- what stands between two lists is replaced
pub put-seam : (p c q v : List ℕ) (a : ℕ) → length p ≡ a → length c ≡ length v → put (p ++ (c ++ q)) a v ≡ p ++ (v ++ q)
unfolding put
put-seam p c q v a l e = rw (← l, take_at p (c ++ q) (length p) refl, drop-append-add, drop_at c q (length v) e, append_assoc)

-- a byte stored is a part of one byte put
pub set-put : (s : List ℕ) (i x : ℕ) → i < length s → set s i x ≡ put s i (x ∷ [])
unfolding put
set-put s i x h = set_split s i x h ∙ rw (append_snoc (take i s) x (drop (i + 1) s), add-one)

-- a part put at the start
pub put-start : (s v : List ℕ) → put s 0 v ≡ v ++ drop (length v) s
unfolding put
put-start s v = rw zero-add

-- one call more: t is s with v put in, and u is t with w put behind v
pub put_next : {t u : List ℕ} (s : List ℕ) (a : ℕ) (v : List ℕ) (b : ℕ) (w : List ℕ) → t ≡ put s a v → u ≡ put t b w
    → a + length v ≡ b → b + length w ≤ length s → u ≡ put s a (v ++ w)
put_next s a v b w e f q h = f ∙ ap (λ (x : List ℕ). put x b w) e ∙ put-put s a v b w q h

-- the part from an index on, lent to a copy of v and come back
pub copied-in : (s : List ℕ) (a : ℕ) (v : List ℕ) (k : ℕ) {w : List ℕ} → k ≡ length s - a → a + length v ≤ length s
    → w ≡ take (length v) v ++ drop (length v) (take k (drop a s)) → take a s ++ (w ++ drop k (drop a s)) ≡ put s a v
unfolding put
copied-in s a v k e h c =
    let l : length (drop a s) ≡ k = length-drop a s ∙ sym e in
    let whole : take k (drop a s) ≡ drop a s = take_all k (drop a s) (omega arith) in
    let past : drop k (drop a s) ≡ [] = rw (← l) (drop-length (drop a s)) in
    rw (c, whole, past, take-length, append-nil, drop-drop, ← append_assoc (take a s) v)

-- bytes stored one behind the other are a part put
pub sets-put : (s : List ℕ) (a : ℕ) (v : List ℕ) → a + length v ≤ length s → sets s a v ≡ put s a v
unfolding put
sets-put s a v h = sets-eq v s a h
