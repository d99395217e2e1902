-- The zero range of the unused rows, and numbers read into an array. Assumes nothing.
use Prim.Native.Nat.{ℕ, zero, suc, ◌+◌, ◌*◌, ◌<◌}
use native.Mathlib.Nat.{eq-or-lt_of_le, le-add_right, add-zero, add-suc, mul-add, mul-zero, mul-suc}
use native.Mathlib.Omega.{arith}
use mathlib.Core.Bool.{Bool, ◌||◌}
use mathlib.Core.List.{List}
use mathlib.Core.Path.{◌≡◌, sym, ◌∙◌}
use lib.Dec.{ltb}
use lib.ListN.{length, get_or, set}
use lib.Seq.{get_or-set_same, get_or-set_other}
use mathlib.Core.Logic.{⊎_elim}
use borrow.Author.Tests.{lt-ltb, le-ltb}
use Rattle.octets.specs.Octets.{all, zero_at}
use Rattle.octets.proofs.Laws.{all-each, all_same, zero-join}

-- of rows of size w from index a on, those from the u-th on are zero exactly when the range that they fill is
pub zero-rows : (s : List ℕ) (a w u m : ℕ) → zero_at s (a + w * u) (w * m) ≡ all (u + m) (λ i. ltb i u || zero_at s (a + w * i) w)
unfolding all zero_at
zero-rows s a w u zero = rw (mul-zero, add-zero) (sym (all-each u _ (λ i l. rw (lt-ltb i u l))))
zero-rows s a w u (suc m) =
    let e : a + w * u + w * m ≡ a + w * (u + m) = rw mul-add (omega arith) in
    rw (add-suc, mul-suc) (zero-join s (a + w * u) (w * m) w ∙ rw (zero-rows s a w u m, e, le-ltb (u + m) u (le-add_right u m)))

-- ---- numbers read into an array, one a turn

module _ (f : ℕ → ℕ) (xs : List ℕ) (i x : ℕ) (known : (j : ℕ) → j < i → get_or xs j 0 ≡ f j) (last : x ≡ f i) where
  -- one more is read
  pub read_more : i < length xs → (j : ℕ) → j < i + 1 → get_or (set xs i x) j 0 ≡ f j
  read_more l j b =
      ⊎_elim
      (λ (e : j ≡ i). rw e (get_or-set_same xs i x 0 l ∙ last))
      (λ (q : j < i). get_or-set_other xs i j x 0 (λ e. omega arith) ∙ known j q)
      (eq-or-lt_of_le (omega arith))

  -- a test against those that were read
  pub read-test : (p : ℕ → ℕ → Bool) → all i (λ j. p (get_or xs j 0) x) ≡ all i (λ j. p (f j) (f i))
  read-test p = all_same i _ _ (λ j l. rw (known j l, last))
