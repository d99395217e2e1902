-- Rules that give words: which of them refuse, and what follows of a list put together. Assumes nothing.
use Prim.Native.Nat.{ℕ, ◌<◌}
use mathlib.Core.Bool.{Bool, true, false}
use mathlib.Core.List.{List, [], ◌∷◌, ◌++◌}
use mathlib.Core.Path.{◌≡◌, refl}
use borrow.Author.Tests.{ltb-true}
use lib.Dec.{ltb}
use lib.ListN.{get_or}
use Rattle.laws.proofs.Bools.{and_split}
use Rattle.refusals.specs.Judge.{Rule, ◌when◌, judge, each}
use Rattle.refusals.proofs.Judged.{NoneHolds, First, all_pass, first_passes}

-- Each rule gives words that begin with a refusal's number.
abbrev refusing : List ℕ → Bool
refusing g = ltb 0 (get_or g 0 0)

abbrev pub refuse : List (Rule (List ℕ)) → Bool
refuse rules = all_pass refusing rules

pub first-refuses : {rules : List (Rule (List ℕ))} {g : List ℕ} → First rules g → refuse rules ≡ true → 0 < get_or g 0 0
first-refuses {g = g} f r = ltb-true 0 (get_or g 0 0) (first_passes refusing r f)

pub refuse-append : (xs ys : List (Rule (List ℕ))) → refuse xs ≡ true → refuse ys ≡ true → refuse (xs ++ ys) ≡ true
refuse-append [] ys a b = b
refuse-append ((g when c) ∷ xs) ys a b =
    let h = and_split (ltb 0 (get_or g 0 0)) (refuse xs) a in
    rw h.0 (refuse-append xs ys h.1 b)

pub refuse-each : (f : ℕ → List ℕ) → ((n : ℕ) → ltb 0 (get_or (f n) 0 0) ≡ true) → (rules : List (Rule ℕ)) → refuse (each f rules) ≡ true
refuse-each f h [] = refl
refuse-each f h ((n when c) ∷ rules) = rw (h n) (refuse-each f h rules)

pub judge-each-of : {A B C : Type 0} (g : B → C) (f : A → B) (rules : List (Rule A)) (answer : C)
    → judge g (each f rules) answer ≡ judge (λ x. g (f x)) rules answer
unfolding judge
judge-each-of g f [] answer = refl
judge-each-of g f ((x when true) ∷ rules) answer = refl
judge-each-of g f ((x when false) ∷ rules) answer = judge-each-of g f rules answer

pub none-of-both : {A : Type 0} (xs ys : List (Rule A)) → NoneHolds (xs ++ ys) → NoneHolds xs × NoneHolds ys
none-of-both [] ys h = (tt, h)
none-of-both ((g when c) ∷ xs) ys h = let r = none-of-both xs ys h.1 in ((h.0, r.0), r.1)
