-- A refusal's second number is a place in the slice, or its end. Assumes nothing.
use Prim.Native.Nat.{ℕ, ◌≤◌}
use native.Mathlib.Omega.{arith}
use mathlib.Core.List.{List, [], ◌∷◌}
use mathlib.Core.Path.{◌≡◌, refl, sym, ◌∙◌}
use borrow.Author.Tests.{ltb-false, not-false}
use lib.ListN.{length, drop}
use Rattle.refusals.proofs.Judged.{Outcome, none, first, outcome, none-judge, first-judge, FirstGives, first-has, gives-past}
use mathlib.Core.Bool.{false≢true}
use Rattle.sfdu.specs.Nesting.{label_size, data_value_at}
use Rattle.sfdu.specs.Read.{kind_of, record_length, read_rules, record_words, read_one, label_length}
use Rattle.sfdu.specs.Within.{SecondInside}
use Rattle.sfdu.proofs.Placed.{placed}
use Rattle.sfdu.proofs.Accepted.{in-range, record-length}

module _ (s : List ℕ) where
  abbrev Inside : List ℕ → Type 0
  Inside w = (n m : ℕ) → w ≡ n ∷ m ∷ [] → m ≤ length s

  inside : (n m : ℕ) → m ≤ length s → Inside (n ∷ m ∷ [])
  inside n m h i j e = let z : m ≡ j = cc in omega arith

  -- Each rule gives a place, by what those before it leave: a label, its length in range, a record lent whole.
  rules-inside : FirstGives Inside (read_rules s)
  rules-inside =
      let p = placed (kind_of s) in
      let size = record-length s (label_length s) refl in
      let at : (n m : ℕ) → m ≤ length s → Inside (n ∷ m ∷ []) = inside in
      gives-past Inside 1 (read_rules s) (at _ _ (omega arith), tt) (λ long.
      let l : label_size ≤ length s = ltb-false _ _ long.0 in
      gives-past Inside 4 (drop 1 (read_rules s)) (
        at _ _ (omega arith),
        (
          at _ _ (omega arith),
          (
            at _ _ (omega arith),
            (
              at _ _ (omega arith),
              tt,
            ),
          ),
        ),
      ) (λ labelled.
      let r = in-range (kind_of s) s (not-false _ labelled.1.1.1.0) in
      gives-past Inside 1 (drop 5 (read_rules s)) (at _ _ (omega arith), tt) (λ lent.
      let whole : record_length s ≤ length s = ltb-false _ _ lent.0 in
      let room : data_value_at (kind_of s) ≤ length s = omega arith in
      gives-past Inside 4 (drop 6 (read_rules s)) (at _ _ (omega arith), (at _ _ (omega arith), (at _ _ (omega arith), (at _ _ (omega arith), tt)))) (λ _.
      gives-past Inside 4 (drop 10 (read_rules s)) (
        at _ _ (omega arith),
        (
          at _ _ (omega arith),
          (
            at _ _ (omega arith),
            (
              at _ _ (omega arith),
              tt,
            ),
          ),
        ),
      ) (λ _. tt)))))

  inside-here : (n m : ℕ) → read_one s ≡ n ∷ m ∷ [] → m ≤ length s
  unfolding read_one
  inside-here n m e = by (outcome (read_rules s))
    where
      by : Outcome (read_rules s) → m ≤ length s
      by (none h) =
          absurd (false≢true (cc (none-judge (λ given. given) (read_rules s) (record_words (kind_of s) s) h, e)))
      by (first g f) = first-has Inside rules-inside f n m (sym (first-judge (λ given. given) (record_words (kind_of s) s) f) ∙ e)

pub second-inside : SecondInside
second-inside s = inside-here s
