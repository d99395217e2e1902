-- What follows from the result of a check of fields, for any list of rules that is made from its rules. Assumes nothing.
use Prim.Native.Nat.{ℕ}
use mathlib.Core.List.{List, ◌++◌}
use mathlib.Core.Path.{◌≡◌, sym, ap, ◌∙◌}
use Rattle.std.specs.Prelude.{Result, Ok, Err}
use Rattle.refusals.specs.declared.Refusal.{Refusal}
use Rattle.refusals.specs.Table.{number_of}
use Rattle.refusals.specs.Judge.{Rule, judge, answered}
use Rattle.refusals.proofs.Judged.{Outcome, none, first, outcome, none-judge, first-judge, judge-each}
use Rattle.sfdu.specs.declared.Fault.{Fault}
use Rattle.sfdu.specs.Read.{◌giving◌, fault_words, type_and_length, block_rules}
use Rattle.sfdu.specs.inner.Checked.{checked}

-- The refusal at an offset.
abbrev pub wrong : {A : Type 0} → Refusal → ℕ → Result A Fault
wrong r at = Err (record { refusal = r; at = at })

module _ {A B : Type 0} (f : ℕ → B) (r : Refusal) (x : A) (rules : List (Rule ℕ)) (answer : B) where
  pub all_right : (u : A) → judge (wrong r) rules (Ok x) ≡ Ok u → (u ≡ x) × (judge f rules answer ≡ answer)
  all_right u e = by (outcome rules)
    where
      by : Outcome rules → (u ≡ x) × (judge f rules answer ≡ answer)
      by (none n) = (cc (none-judge (wrong r) rules (Ok x) n, e), none-judge f rules answer n)
      by (first g o) = cc (first-judge (wrong r) (Ok x) o, e)

  -- Some rule is the first that holds, and the fault has its offset.
  pub one-wrong : (a : Fault) → judge (wrong r) rules (Ok x) ≡ Err a → (a.refusal ≡ r) × (judge f rules answer ≡ f a.at)
  one-wrong a e = by (outcome rules)
    where
      by : Outcome rules → (a.refusal ≡ r) × (judge f rules answer ≡ f a.at)
      by (none n) = cc (none-judge (wrong r) rules (Ok x) n, e)
      by (first g o) =
          let z : wrong {A = A} r g ≡ Err a = sym (first-judge (wrong r) (Ok x) o) ∙ e in
          let refusal : a.refusal ≡ r = cc z in
          let at : a.at ≡ g = cc z in
          (refusal, first-judge f answer o ∙ ap f (sym at))

module _ (r : Refusal) (s : List ℕ) (at type size : ℕ) (more : List (Rule (List ℕ))) (w : List ℕ) where
  pub label-right : (u : Unit {0}) → checked r (type_and_length s at type size) ≡ Ok u
      → answered (block_rules (number_of r) s at type size ++ more) w ≡ answered more w
  label-right u e =
      judge-each (λ given. given) (λ field. number_of r giving field) (type_and_length s at type size) more w
      ∙ (all_right (λ field. number_of r giving field) r tt (type_and_length s at type size) (answered more w) u e).1

  pub label-wrong : (a : Fault) → checked r (type_and_length s at type size) ≡ Err a
      → answered (block_rules (number_of r) s at type size ++ more) w ≡ fault_words a
  label-wrong a e =
      let found = one-wrong (λ field. number_of r giving field) r tt (type_and_length s at type size) (answered more w) a e in
      judge-each (λ given. given) (λ field. number_of r giving field) (type_and_length s at type size) more w
      ∙ found.1
      ∙ ap (λ (x : Refusal). number_of x giving a.at) (sym found.0)
