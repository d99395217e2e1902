-- The numbers of a case of an answer are those of the answer that is that case. Assumes nothing.
use Prim.Native.Nat.{ℕ}
use borrow.Author.Tests.{ne_eqb}
use mathlib.Core.List.{List, [], ◌∷◌}
use mathlib.Core.Path.{◌≡◌, refl, subst⁻¹}
use Rattle.refusals.specs.Table.{number_of}
use Rattle.refusals.specs.declared.Refusal.{Refusal}
use Rattle.refusals.proofs.Laws.{number-positive}
use Rattle.sfdu_headers.specs.Words.{Word}
use Rattle.answers.specs.Numbers.{plain, with_none}
use Rattle.answers.specs.inner.Numbers.{Numbers, Few}

pub few-along : {A : Type 0} {a b : A} {numbers : List ℕ} (words : A → List Word) → a ≡ b → Few numbers (words b) → Few numbers (words a)
few-along {numbers = ns} words e h = subst⁻¹ (λ x. Few ns (words x)) e h

pub numbers-along : {A : Type 0} {a b : A} {numbers : List ℕ} (words : A → List Word) → a ≡ b → Numbers numbers (words b) → Numbers numbers (words a)
numbers-along {numbers = ns} words e h = subst⁻¹ (λ x. Numbers ns (words x)) e h

-- A refused answer has no none.
refused-words : (size : ℕ) (why : Refusal) → with_none size (number_of why ∷ []) ≡ plain (number_of why ∷ [])
refused-words size why = rw (ne_eqb (number_of why) 0 (number-positive why)) refl

pub refused-whole : {numbers : List ℕ} (size : ℕ) (why : Refusal) → Few numbers (plain (number_of why ∷ [])) → Few numbers (with_none size (number_of why ∷ []))
refused-whole {numbers = ns} size why h = subst⁻¹ (λ (words : List Word). Few ns words) (refused-words size why) h

pub refused_all : {numbers : List ℕ} (size : ℕ) (why : Refusal) → Numbers numbers (plain (number_of why ∷ []))
    → Numbers numbers (with_none size (number_of why ∷ []))
refused_all {numbers = ns} size why h = subst⁻¹ (λ (words : List Word). Numbers ns words) (refused-words size why) h
