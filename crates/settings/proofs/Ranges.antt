-- What `all` over the numbers below n says. Assumes nothing.
use Prim.Native.Nat.{ℕ, ◌<◌}
use native.Mathlib.Nat.{zero-add}
use native.Mathlib.Omega.{arith}
use mathlib.Core.Bool.{Bool, true, false}
use mathlib.Core.Path.{◌≡◌, sym}
use lib.ListN.{get_or, length}
use Rattle.std.specs.Bool.{MatchBool}
use Rattle.std.specs.List.{range_with_len, AllWithin, HoldsAt}
use Rattle.std.proofs.lemmas.List.FromFn.{length-range_with_len, get_or-range_with_len}
use Rattle.octets.specs.Octets.{all}
use Rattle.octets.proofs.Laws.{all-each, all-fails}

-- The number at place i is i.
place : (n i : ℕ) → i < n → get_or (range_with_len 0 n) i 0 ≡ i
place n i h = rw (get_or-range_with_len 0 n i 0 h, zero-add)

pub all-range : (n : ℕ) (p : ℕ → Bool) (r : Bool)
    → MatchBool r (AllWithin (λ i. p i ≡ true) (range_with_len 0 n) 0 (length (range_with_len 0 n)))
    ((k : ℕ) × (k < length (range_with_len 0 n)) × HoldsAt (λ i. p i ≡ false) (range_with_len 0 n) k)
    → r ≡ all n p
all-range n p true h =
    sym (all-each n p (λ i l. rw (place n i l) at (h i 0 (omega arith) (omega (arith, length-range_with_len 0 n)))))
all-range n p false h =
    let l : h.0 < n = omega (arith, h.1, length-range_with_len 0 n) in
    sym (all-fails n h.0 p l (rw (place n h.0 l) at (h.2 0)))
