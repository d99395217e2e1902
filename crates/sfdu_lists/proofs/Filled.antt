-- A list that is filled from its start: its first elements are xs, and the others are unchanged. It holds for elements of any type, so for a table of
-- entries and for a list of numbers. Assumes nothing.
use Prim.Native.Nat.{◌≤◌, ◌<◌}
use native.Mathlib.Numerals.{add-one}
use native.Mathlib.Omega.{arith}
use mathlib.Core.List.{List, [], ◌∷◌, ◌++◌, append_assoc}
use mathlib.Core.Path.{◌≡◌}
use lib.ListN.{length, set, length-append, length-drop}
use lib.Seq.{drop-cons, set-append_seam}
use Rattle.sfdu_stream.specs.Listing.{fills}

-- one element more
pub fills-more {ℓ} : {A : Type ℓ} (xs old : List A) (x : A) → length xs < length old
    → set (fills xs old) (length xs) x ≡ fills (xs ++ (x ∷ [])) old
fills-more xs old x h = rw (length-append, add-one, drop-cons old (length xs) x h, set-append_seam, append_assoc)

-- it keeps its length
pub fills-length {ℓ} : {A : Type ℓ} (xs old : List A) → length xs ≤ length old → length (fills xs old) ≡ length old
fills-length xs old h = simp (length-append, length-drop) (omega arith)
