-- What the edition of a number says of the number. Assumes nothing.
use Prim.Native.Nat.{ℕ}
use mathlib.Core.Bool.{Bool, true, false}
use mathlib.Core.Path.{◌≡◌, refl, sym, ap, ◌∙◌}
use lib.Dec.{eqb}
use borrow.Author.Tests.{eqb-true}
use Rattle.std.specs.Prelude.{Ok, Err}
use Rattle.refusals.specs.declared.Refusal.{Refusal}
use Rattle.refusals.specs.declared.Refusal.TheVariants.{UnknownEdition}
use Rattle.settings.specs.declared.Edition.{Edition}
use Rattle.settings.specs.declared.Edition.TheVariants.{Old, New}
use Rattle.settings.specs.Editions.{edition_number}
use Rattle.settings.specs.inner.Numbered.{edition_of}
use Rattle.settings.specs.Model.{known}

-- A known number is its edition's.
pub known-of : (n : ℕ) (edition : Edition) → Ok edition ≡ edition_of n → (known n ≡ true) × (edition_number edition ≡ n)
known-of n edition h = by (eqb n 1) (eqb n 2) refl refl
  where
    by : (a b : Bool) → eqb n 1 ≡ a → eqb n 2 ≡ b → (known n ≡ true) × (edition_number edition ≡ n)
    by true b p q = let e = rw p at h in let is : edition ≡ Old = cc in (rw p, ap edition_number is ∙ sym (eqb-true n 1 p))
    by false true p q = let e = rw (p, q) at h in let is : edition ≡ New = cc in (rw (p, q), ap edition_number is ∙ sym (eqb-true n 2 q))
    by false false p q = let e = rw (p, q) at h in cc

-- Any other number is refused.
pub unknown-of : (n : ℕ) (r : Refusal) → Err r ≡ edition_of n → (known n ≡ false) × (r ≡ UnknownEdition)
unknown-of n r h = by (eqb n 1) (eqb n 2) refl refl
  where
    by : (a b : Bool) → eqb n 1 ≡ a → eqb n 2 ≡ b → (known n ≡ false) × (r ≡ UnknownEdition)
    by true b p q = let e = rw p at h in cc
    by false true p q = let e = rw (p, q) at h in cc
    by false false p q = let e = rw (p, q) at h in (rw (p, q), cc)
