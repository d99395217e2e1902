-- Bytes read into an array, one in each turn of a loop. Assumes nothing.
use Prim.Native.Nat.{ℕ, ◌+◌, ◌<◌}
use native.Mathlib.Nat.{eq-or-lt_of_le}
use native.Mathlib.Omega.{arith}
use mathlib.Core.List.{List}
use mathlib.Core.Logic.{⊎_elim}
use mathlib.Core.Path.{◌≡◌, ◌∙◌}
use lib.ListN.{length, get_or, set}
use lib.Seq.{get_or-set_same, get_or-set_other}

pub read_more : (f : ℕ → ℕ) (xs : List ℕ) (i x : ℕ) → ((j : ℕ) → j < i → get_or xs j 0 ≡ f j) → x ≡ f i → i < length xs
    → (j : ℕ) → j < i + 1 → get_or (set xs i x) j 0 ≡ f j
read_more f xs i x known last l j b =
    ⊎_elim
    (λ (e : j ≡ i). rw e (get_or-set_same xs i x 0 l ∙ last))
    (λ (q : j < i). get_or-set_other xs i j x 0 (λ e. omega arith) ∙ known j q)
    (eq-or-lt_of_le (omega arith))
