-- Parts of zero ranges, zero numbers, and numbers read into an array. Assumes nothing.
use Prim.Native.Nat.{ℕ, zero, suc, ◌+◌, ◌*◌, ◌-◌, ◌≤◌, ◌<◌}
use native.Mathlib.Nat.{zero-add}
use native.Mathlib.Omega.{arith}
use mathlib.Core.Bool.{Bool, true, false, not, ◌&&◌, ◌||◌, and-true}
use mathlib.Core.List.{List}
use mathlib.Core.Path.{◌≡◌, refl, ap, ◌∙◌}
use lib.Dec.{eqb}
use lib.ListN.{length, get_or, set}
use lib.Seq.{get_or-set_same, get_or-set_other}
use borrow.Author.Tests.{eq-eqb, ne_eqb}
use Rattle.octets.specs.Octets.{all, number_at, zero_at}
use Rattle.octets.proofs.Laws.{all-each, all-next, all_same}
use Rattle.octets.proofs.Parts.{zero-at}

-- a part of a zero range is zero
pub zero-within : (s : List ℕ) (a n b m : ℕ) → zero_at s a n ≡ true → a ≤ b → b + m ≤ a + n → zero_at s b m ≡ true
unfolding zero_at
zero-within s a n b m h l r =
    all-each m _ (λ i q. eq-eqb _ _ (zero-at s a n (b - a + i) (b + i) h (omega arith) (omega arith)))

-- a number is zero exactly when its bytes are
pub zero_number : (s : List ℕ) (a n : ℕ) → eqb (number_at s a n) 0 ≡ zero_at s a n
unfolding number_at zero_at all
zero_number s a zero = refl
zero_number s a (suc n) = by (number_at s a n) (get_or s (a + n) 0) ∙ ap (λ b. b && eqb (get_or s (a + n) 0) 0) (zero_number s a n)
  where
    by : (x y : ℕ) → eqb (x * 256 + y) 0 ≡ (eqb x 0 && eqb y 0)
    by zero y = rw (zero-add y)
    by (suc x) y = rw (ne_eqb (suc x * 256 + y) 0 (λ e. omega arith), ne_eqb (suc x) 0 (λ e. omega arith))

-- ---- numbers read into an array: those of the first i that are wanted, one behind the other

module _ (f : ℕ → ℕ) (w : ℕ → Bool) (xs : List ℕ) (n i : ℕ) where
  -- the first n are those of the first i that are wanted, as a test against any number tells
  abbrev pub Read : Type 0
  Read = (x : ℕ) → all n (λ j. not (eqb (get_or xs j 0) x)) ≡ all i (λ j. not (w j) || not (eqb (f j) x))

pub none_read : (f : ℕ → ℕ) (w : ℕ → Bool) (xs : List ℕ) → Read f w xs 0 0
unfolding all
none_read f w xs x = refl

module _ (f : ℕ → ℕ) (w : ℕ → Bool) (xs : List ℕ) (n i : ℕ) (known : Read f w xs n i) where
  -- one more is read
  pub read_more : (y : ℕ) → n < length xs → y ≡ f i → w i ≡ true → Read f w (set xs n y) (n + 1) (i + 1)
  read_more y l last e x =
      let others : all n (λ j. not (eqb (get_or (set xs n y) j 0) x)) ≡ all n (λ j. not (eqb (get_or xs j 0) x)) =
      all_same n _ _ (λ j b. rw (get_or-set_other xs n j y 0 (λ q. omega arith))) in
      rw (all-next, others, known x, get_or-set_same xs n y 0 l, last, all-next, e)

  -- one is passed
  pub read_past : w i ≡ false → Read f w xs n (i + 1)
  read_past e x = rw (known x, all-next, e, and-true)
