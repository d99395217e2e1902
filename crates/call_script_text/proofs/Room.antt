-- The first elements of a long array that is filled with one number. Assumes nothing.
use Prim.Native.Nat.{ℕ, ◌≤◌}
use mathlib.Core.Path.{◌≡◌, sym, subst}
use lib.ListN.{length, take, replicate, length-replicate}
use lib.Seq.{length-take-le}

-- By the law and not by `search`, which counts the elements of the array.
pub within : (n b z : ℕ) → z ≤ n → z ≤ length (replicate n b)
within n b z h = subst (λ (k : ℕ). z ≤ k) (sym (length-replicate n b)) h

pub first-length : (n b z : ℕ) → z ≤ n → z ≡ length (take z (replicate n b))
first-length n b z h = sym (length-take-le z (replicate n b) (within n b z h))
