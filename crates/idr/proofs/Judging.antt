-- What the verdict of a list of refusals says; and what holds of an accepted record. Assumes nothing.
use Prim.Native.Nat.{ℕ, ◌<◌}
use native.Mathlib.Omega.{arith}
use mathlib.Core.Bool.{Bool, true, false, and-true}
use mathlib.Core.List.{List, [], ◌∷◌}
use mathlib.Core.Path.{◌≡◌, refl, sym, ap, ◌∙◌}
use borrow.Author.Tests.{eq-eqb, eqb-true}
use lib.Dec.{eqb, lit<}
use lib.ListN.{length, get_or}
use Rattle.refusals.specs.Judge.{Rule, verdict, judge}
use Rattle.refusals.specs.Table.{number_of}
use Rattle.refusals.specs.declared.Refusal.{Refusal}
use Rattle.refusals.proofs.Judged.{NoneHolds, Numbered, Outcome, none, first, outcome, none-judge, first-judge, first_gives}
use Rattle.refusals.proofs.Judged.{none-applies, none-hold, none-verdict, verdict-none}
use Rattle.refusals.proofs.Laws.{number-positive}
use Rattle.octets.specs.Octets.{part}
use Rattle.idr.specs.Words.{header_count, record_size, samples_at, samples_size, header}
use Rattle.idr.specs.Rules.{word_rules}
use Rattle.idr.specs.inner.Lent.{lent_rules}
use Rattle.idr.specs.Read.{given_of, read_record, read_rules, accepts, samples_start, samples_part, read_words}

pub judge-accepted : {A : Type 0} (refuse : ℕ → A) (rules : List (Rule ℕ)) (answer : A) → Numbered rules → 0 ≡ verdict rules
    → judge refuse rules answer ≡ answer
judge-accepted refuse rules answer q e = none-judge refuse rules answer (verdict-none rules q (sym e))

pub judge-refused : {A : Type 0} (refuse : ℕ → A) (rules : List (Rule ℕ)) (answer : A) (r : Refusal) → number_of r ≡ verdict rules
    → judge refuse rules answer ≡ refuse (number_of r)
judge-refused refuse rules answer r e = by (outcome rules)
  where
    by : Outcome rules → judge refuse rules answer ≡ refuse (number_of r)
    by (none n) = absurd (number-positive r (e ∙ none-verdict rules n))
    by (first g f) = first-judge refuse answer f ∙ ap refuse (sym (first-judge (λ given. given) 0 f) ∙ sym e)

-- Where the number of an answer is 0, no rule applies.
pub zero-none : {A : Type 0} (refuse : ℕ → A) (number : A → ℕ) → ((n : ℕ) → number (refuse n) ≡ n) → (rules : List (Rule ℕ)) (answer : A)
    → Numbered rules → number (judge refuse rules answer) ≡ 0 → NoneHolds rules
zero-none refuse number same rules answer q e = by (outcome rules)
  where
    by : Outcome rules → NoneHolds rules
    by (none n) = n
    by (first g f) =
        let p : 0 < g = first_gives (λ n. 0 < n) q f in
        absurd (omega (arith, sym (same g) ∙ ap number (sym (first-judge refuse answer f)) ∙ e))

pub words-numbered : (w : List ℕ) → Numbered (word_rules w)
words-numbered w = (lit< tt, (lit< tt, (lit< tt, (lit< tt, tt))))

pub read-numbered : (s : List ℕ) → Numbered (read_rules s)
read-numbered s = (lit< tt, words-numbered (header s))

pub accepts-none : (s : List ℕ) → 0 ≡ verdict (read_rules s) → accepts s ≡ true
unfolding accepts
accepts-none s e = none-applies (read_rules s) (verdict-none (read_rules s) (read-numbered s) (sym e))

pub none-accepts : (s : List ℕ) → accepts s ≡ true → 0 ≡ verdict (read_rules s)
unfolding accepts
none-accepts s e = sym (none-verdict (read_rules s) (none-hold (read_rules s) e))

pub accepts-refused : (s : List ℕ) (r : Refusal) → number_of r ≡ verdict (read_rules s) → accepts s ≡ false
unfolding accepts
accepts-refused s r e = judge-refused (λ n. false) (read_rules s) true r e

-- An accepted record has its length, and its words are accepted.
pub accepted-length : (s : List ℕ) → 0 ≡ verdict (read_rules s) → length s ≡ record_size
unfolding judge
accepted-length s e = by (eqb (length s) record_size) refl
  where
    by : (b : Bool) → eqb (length s) record_size ≡ b → length s ≡ record_size
    by true t = eqb-true _ _ t
    by false t = cc (rw t at e)

pub length-judge : {A : Type 0} (refuse : ℕ → A) (s : List ℕ) (answer : A) → length s ≡ record_size
    → judge refuse (read_rules s) answer ≡ judge refuse (word_rules (header s)) answer
unfolding judge
length-judge refuse s answer e = rw (eq-eqb _ _ e)

pub length-verdict : (s : List ℕ) → length s ≡ record_size → verdict (read_rules s) ≡ verdict (word_rules (header s))
length-verdict s e = length-judge (λ given. given) s 0 e

-- An answer that begins with 0 is no refusal.
pub answer-accepted : (s rest : List ℕ) → read_record s ≡ 0 ∷ rest → 0 ≡ verdict (read_rules s)
unfolding read_record
answer-accepted s rest e =
    let zero : get_or (judge (λ n. n ∷ []) (read_rules s) (given_of (header s))) 0 0 ≡ 0 = ap (λ (l : List ℕ). get_or l 0 0) e in
    let n = zero-none (λ n. n ∷ []) (λ (l : List ℕ). get_or l 0 0) (λ n. refl) (read_rules s) (given_of (header s)) (read-numbered s) zero in
    sym (none-verdict (read_rules s) n)

-- The rules of lent header words are those behind the length, where that is right.
pub header-verdict : (w : List ℕ) → length w ≡ header_count → verdict (lent_rules w) ≡ verdict (word_rules w)
unfolding judge
header-verdict w e = rw (eq-eqb _ _ e)

-- The samples of a record that is accepted, and of one that is not.
pub record Part (s : List ℕ) : Type 0 where
  pub there : samples_part s ≡ part s samples_at samples_size
  pub start : samples_start s ≡ samples_at

pub samples-there : (s : List ℕ) → 0 ≡ verdict (read_rules s) → Part s
unfolding samples_part samples_start
samples-there s e = record { there = rw (accepts-none s e); start = rw (accepts-none s e) }

pub record NoPart (s : List ℕ) : Type 0 where
  pub empty : samples_part s ≡ []
  pub start : samples_start s ≡ 0

pub samples-none : (s : List ℕ) (r : Refusal) → number_of r ≡ verdict (read_rules s) → NoPart s
unfolding samples_part samples_start
samples-none s r e = record { empty = rw (accepts-refused s r e); start = rw (accepts-refused s r e) }

-- The header words, into a list of the right length.
pub words-judged : (s list : List ℕ) → length list ≡ header_count
    → read_words s list ≡ judge (λ n. (n ∷ [], list)) (read_rules s) (0 ∷ [], header s)
unfolding read_words judge
words-judged s list e = rw (eq-eqb _ _ e, and-true)
