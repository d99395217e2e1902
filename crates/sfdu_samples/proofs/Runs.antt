-- Runs of stores, one behind the other. Assumes nothing.
use Rattle.std.proofs.Common.{◌≡◌, ℕ, suc, ◌+◌, ◌*◌, ◌<◌, ◌≤◌, List, [], ◌∷◌, ◌++◌, length, ◌∙◌, add-zero, mul-le-mul_right, suc-mul, zero-add, arith}
use lib.Seq.{sets, sets-eq}
use Rattle.sfdu_samples.specs.Calls.{fills}

pub sets-append : {A : Type 0} (xs ys l : List A) (i : ℕ) → sets (sets l i xs) (i + length xs) ys ≡ sets l i (xs ++ ys)
sets-append [] ys l i = rw add-zero
sets-append (x ∷ xs) ys l i =
    let e : i + suc (length xs) ≡ suc i + length xs = omega arith in
    rw e (sets-append xs ys _ (suc i))

-- A run from the start fills the list.
pub sets-fills : {A : Type 0} (xs l : List A) → length xs ≤ length l → sets l 0 xs ≡ fills xs l
sets-fills xs l h = sets-eq xs l 0 (rw zero-add h) ∙ rw zero-add

-- Parts of p elements: where i of n are done, the next one is within them.
pub next-within : (i n p : ℕ) → i < n → i * p + p ≤ n * p
next-within i n p h = rw (← suc-mul) (mul-le-mul_right p h)
