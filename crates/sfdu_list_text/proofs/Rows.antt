-- Laws of a list of rules: which of them is the first that applies, by where it stands. Assumes nothing.
use mathlib.Core.Bool.{Bool, true, false, false≢true}
use mathlib.Core.List.{List, [], ◌∷◌, ◌++◌}
use mathlib.Core.Path.{◌≡◌, refl, sym, ◌∙◌}
use Rattle.refusals.specs.Judge.{Rule, ◌when◌, judge}
use Rattle.refusals.proofs.Judged.{NoneHolds, First, here, later, Outcome, none, first, outcome, none-judge, first-judge, judge-append}

-- ---- a rule that does not apply

pub skip : {A : Type 0} {x g : A} {c : Bool} {rules : List (Rule A)} → c ≡ false → First ((x when c) ∷ rules) g → First rules g
skip e here = absurd (false≢true (sym e))
skip e (later f) = f

pub pass : {A : Type 0} {x g : A} {c : Bool} {rules : List (Rule A)} → c ≡ false → First rules g → First ((x when c) ∷ rules) g
pass e f = rw e (later f)

-- ---- rules before and behind

pub first-front : {A : Type 0} {g : A} {xs : List (Rule A)} (ys : List (Rule A)) → First xs g → First (xs ++ ys) g
first-front ys here = here
first-front ys (later f) = later (first-front ys f)

pub first-behind : {A : Type 0} {g : A} (xs : List (Rule A)) {ys : List (Rule A)} → NoneHolds xs → First ys g → First (xs ++ ys) g
first-behind [] n f = f
first-behind ((x when c) ∷ xs) n f = pass n.0 (first-behind xs n.1 f)

-- Where the first rule that applies stands: before a rule, that rule itself, or behind it.
pub data Stands {A : Type 0} (xs : List (Rule A)) (x : A) (c : Bool) (ys : List (Rule A)) (g : A) : Type 0 where
  before : First xs g → Stands xs x c ys g
  there : NoneHolds xs → c ≡ true → g ≡ x → Stands xs x c ys g
  behind : NoneHolds xs → c ≡ false → First ys g → Stands xs x c ys g

pub stands : {A : Type 0} (xs : List (Rule A)) (x : A) (c : Bool) (ys : List (Rule A)) (g : A)
    → First (xs ++ (x when c) ∷ ys) g → Stands xs x c ys g
stands [] x true ys g here = there tt refl refl
stands [] x false ys g (later f) = behind tt refl f
stands ((y when true) ∷ xs) x c ys g here = before here
stands {A} ((y when false) ∷ xs) x c ys g (later f) = by (stands xs x c ys g f)
  where
    by : Stands xs x c ys g → Stands ((y when false) ∷ xs) x c ys g
    by (before h) = before (later h)
    by (there n t e) = there (refl, n) t e
    by (behind n t h) = behind (refl, n) t h

-- Rules behind others count only where none of those applies.
module _ {A B : Type 0} (f : A → B) (xs : List (Rule A)) (answer : B) where
  pub judge-behind : (ys : List (Rule A)) → NoneHolds xs → judge f (xs ++ ys) answer ≡ judge f ys answer
  judge-behind ys n = judge-append f xs ys answer ∙ none-judge f xs (judge f ys answer) n

  pub agree : (ys zs : List (Rule A)) → (NoneHolds xs → judge f ys answer ≡ judge f zs answer)
      → judge f (xs ++ ys) answer ≡ judge f (xs ++ zs) answer
  agree ys zs h = by (outcome xs)
    where
      by : Outcome xs → judge f (xs ++ ys) answer ≡ judge f (xs ++ zs) answer
      by (none n) = judge-behind ys n ∙ h n ∙ sym (judge-behind zs n)
      by (first g r) = first-judge f answer (first-front ys r) ∙ sym (first-judge f answer (first-front zs r))
