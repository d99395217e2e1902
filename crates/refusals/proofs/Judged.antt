-- Laws of a list of rules: either none holds, or one is the first that holds. Assumes nothing.
use Prim.Native.Nat.{ℕ, zero, suc, ◌<◌}
use native.Mathlib.Omega.{arith}
use mathlib.Core.Bool.{Bool, true, false, ◌&&◌, false≢true}
use mathlib.Core.List.{List, [], ◌∷◌, ◌++◌}
use mathlib.Core.Path.{◌≡◌, refl, sym, ◌∙◌}
use lib.ListN.{take, drop}
use Rattle.laws.proofs.Bools.{and_split}
use Rattle.refusals.specs.Judge.{Rule, ◌when◌, judge, each, none_applies, verdict}

-- No rule's condition holds.
abbrev pub NoneHolds : {A : Type 0} → List (Rule A) → Type 0
NoneHolds [] = Unit {0}
NoneHolds ((given when c) ∷ rules) = (c ≡ false) × NoneHolds rules

-- The condition of the rule at a place of the list; it does not hold behind the last.
abbrev pub condition_at : {A : Type 0} → List (Rule A) → ℕ → Bool
condition_at [] i = false
condition_at ((given when c) ∷ rules) zero = c
condition_at ((given when c) ∷ rules) (suc i) = condition_at rules i

pub none-at : {A : Type 0} (rules : List (Rule A)) → NoneHolds rules → (i : ℕ) → condition_at rules i ≡ false
none-at [] h i = refl
none-at ((given when c) ∷ rules) h zero = h.0
none-at ((given when c) ∷ rules) h (suc i) = none-at rules h.1 i

-- What each rule gives has the property P.
abbrev pub AllGive : {A : Type 0} → (A → Type 0) → List (Rule A) → Type 0
AllGive P [] = Unit {0}
AllGive P ((given when c) ∷ rules) = P given × AllGive P rules

-- The first rule that applies gives g.
pub data First {A : Type 0} : List (Rule A) → A → Type 0 where
  here : {g : A} {rules : List (Rule A)} → First ((g when true) ∷ rules) g
  later : {g h : A} {rules : List (Rule A)} → First rules g → First ((h when false) ∷ rules) g

-- What a list of rules comes to.
pub data Outcome {A : Type 0} (rules : List (Rule A)) : Type 0 where
  none : NoneHolds rules → Outcome rules
  first : (g : A) → First rules g → Outcome rules

pub outcome : {A : Type 0} (rules : List (Rule A)) → Outcome rules
outcome [] = none tt
outcome ((g when true) ∷ rules) = first g here
outcome ((h when false) ∷ rules) = by (outcome rules)
  where
    by : Outcome rules → Outcome ((h when false) ∷ rules)
    by (none n) = none (refl, n)
    by (first g f) = first g (later f)

pub none-judge : {A B : Type 0} (f : A → B) (rules : List (Rule A)) (answer : B) → NoneHolds rules → judge f rules answer ≡ answer
unfolding judge
none-judge f [] answer h = refl
none-judge f ((g when c) ∷ rules) answer h = rw h.0 (none-judge f rules answer h.1)

pub first-judge : {A B : Type 0} (f : A → B) {rules : List (Rule A)} {g : A} (answer : B) → First rules g → judge f rules answer ≡ f g
unfolding judge
first-judge f answer here = refl
first-judge f answer (later r) = first-judge f answer r

pub first_gives : {A : Type 0} (P : A → Type 0) {rules : List (Rule A)} {g : A} → AllGive P rules → First rules g → P g
first_gives P h here = h.0
first_gives P h (later r) = first_gives P h.1 r

-- What each rule gives has the property P where it is the first that applies.
abbrev pub FirstGives : {A : Type 0} → (A → Type 0) → List (Rule A) → Type 0
FirstGives P [] = Unit {0}
FirstGives P ((given when c) ∷ rules) = (c ≡ true → P given) × (c ≡ false → FirstGives P rules)

pub first-has : {A : Type 0} (P : A → Type 0) {rules : List (Rule A)} {g : A} → FirstGives P rules → First rules g → P g
first-has P h here = h.0 refl
first-has P h (later r) = first-has P (h.1 refl) r

-- The first n rules have it whichever of them applies, and the others where none of these does.
pub gives-past : {A : Type 0} (P : A → Type 0) (n : ℕ) (rules : List (Rule A)) → AllGive P (take n rules)
    → (NoneHolds (take n rules) → FirstGives P (drop n rules)) → FirstGives P rules
gives-past P zero rules h rest = rest tt
gives-past P (suc n) [] h rest = tt
gives-past P (suc n) ((g when c) ∷ rules) h rest = (λ _. h.0, λ e. gives-past P n rules h.1 (λ none. rest (e, none)))

-- What each rule gives passes a test.
abbrev pub all_pass : {A : Type 0} → (A → Bool) → List (Rule A) → Bool
all_pass p [] = true
all_pass p ((given when c) ∷ rules) = p given && all_pass p rules

pub first_passes : {A : Type 0} (p : A → Bool) {rules : List (Rule A)} {g : A} → all_pass p rules ≡ true → First rules g → p g ≡ true
first_passes p t (here {g} {rules}) = (and_split (p g) (all_pass p rules) t).0
first_passes p t (later {g} {h} {rules} f) = first_passes p (and_split (p h) (all_pass p rules) t).1 f

-- One list behind another is judged where the first has nothing to say.
pub judge-append : {A B : Type 0} (f : A → B) (xs ys : List (Rule A)) (answer : B) → judge f (xs ++ ys) answer ≡ judge f xs (judge f ys answer)
unfolding judge
judge-append f [] ys answer = refl
judge-append f ((g when true) ∷ xs) ys answer = refl
judge-append f ((g when false) ∷ xs) ys answer = judge-append f xs ys answer

pub judge-each : {A B C : Type 0} (g : B → C) (f : A → B) (rules : List (Rule A)) (more : List (Rule B)) (answer : C)
    → judge g (each f rules ++ more) answer ≡ judge (λ x. g (f x)) rules (judge g more answer)
unfolding judge
judge-each g f [] more answer = refl
judge-each g f ((x when true) ∷ rules) more answer = refl
judge-each g f ((x when false) ∷ rules) more answer = judge-each g f rules more answer

-- No rule applies, as a test.
pub none-applies : {A : Type 0} (rules : List (Rule A)) → NoneHolds rules → none_applies rules ≡ true
none-applies rules h = none-judge (λ given. false) rules true h

pub none-hold : {A : Type 0} (rules : List (Rule A)) → none_applies rules ≡ true → NoneHolds rules
none-hold rules e = by (outcome rules)
  where
    by : Outcome rules → NoneHolds rules
    by (none n) = n
    by (first g f) = absurd (false≢true (sym (first-judge (λ given. false) true f) ∙ e))

pub one-first : {A : Type 0} (rules : List (Rule A)) → none_applies rules ≡ false → (g : A) × First rules g
one-first {A} rules e = by (outcome rules)
  where
    by : Outcome rules → (g : A) × First rules g
    by (none n) = absurd (false≢true (sym e ∙ none-applies rules n))
    by (first g f) = (g, f)

-- ---- rules that give numbers

-- No rule gives 0.
abbrev pub Numbered : List (Rule ℕ) → Type 0
Numbered rules = AllGive (λ n. 0 < n) rules

pub none-verdict : (rules : List (Rule ℕ)) → NoneHolds rules → verdict rules ≡ 0
none-verdict rules h = none-judge (λ given. given) rules 0 h

pub verdict-none : (rules : List (Rule ℕ)) → Numbered rules → verdict rules ≡ 0 → NoneHolds rules
verdict-none rules q e = by (outcome rules)
  where
    by : Outcome rules → NoneHolds rules
    by (none n) = n
    by (first g f) =
        let p : 0 < g = first_gives (λ n. 0 < n) q f in
        absurd (omega (arith, first-judge (λ given. given) 0 f))
