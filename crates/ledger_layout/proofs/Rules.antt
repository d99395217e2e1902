-- A call with its rules on a sheet is the model's call on the book that the sheet holds: one law for a refused call, one for an accepted call.
-- Assumes nothing.
use Prim.Native.Nat.{ℕ}
use native.Mathlib.Omega.{arith}
use mathlib.Core.Bool.{Bool, true, false}
use mathlib.Core.Logic.{◌≢◌}
use mathlib.Core.List.{List, [], ◌∷◌, ◌++◌}
use mathlib.Core.Path.{◌≡◌, refl, sym, ap, ◌∙◌}
use borrow.Author.Tests.{ne_eqb}
use Rattle.refusals.specs.Judge.{Rule, ◌when◌, judge, verdict}
use Rattle.refusals.proofs.Judged.{Outcome, AllGive, outcome, none, first, none-verdict, first-judge, first_gives, judge-append}
use Rattle.ledger_model.specs.Book.{Book}
use Rattle.ledger_model.specs.Step.{Question, Call, Ask, asked, answer_words, refusals, effect, after_refusal, step}
use Rattle.octets.proofs.Laws.{Bytes}
use Rattle.ledger_sheet.specs.Sheet.{right}
use Rattle.ledger_layout.specs.Layout.{layout, book_of, call, laid_out, on_sheet}
use Rattle.ledger_layout.specs.inner.Rules.{rules_on}
use Rattle.ledger_layout.proofs.Read.{read-law}

-- a right sheet
pub on-right : (f : Book → List ℕ × Book) (s : List ℕ) → right s ≡ true → laid_out (f (book_of s)) ≡ on_sheet f s
unfolding on_sheet
on-right f s r = rw r

-- and any other slice
pub not_right : (f : Book → List ℕ × Book) (s : List ℕ) → right s ≡ false → (20 ∷ [], s) ≡ on_sheet f s
unfolding on_sheet
not_right f s r = rw r

module _ (c : Call) (s : List ℕ) where
  -- refused, and what the refusal changes
  pub refused-right : right s ≡ true → (n : ℕ) → n ≡ verdict (refusals c (book_of s)) → n ≢ 0
      → (n ∷ [], layout (after_refusal n c (book_of s))) ≡ on_sheet (call c) s
  unfolding on_sheet step
  refused-right r n e p = rw (r, ← e, ne_eqb n 0 p)

  -- refused, and the refusal changes nothing
  pub refused-on : Bytes s → (n : ℕ) → n ≡ verdict (rules_on c s) → n ≢ 0 → after_refusal n c (book_of s) ≡ book_of s
      → (n ∷ [], s) ≡ on_sheet (call c) s
  unfolding on_sheet judge
  refused-on bytes n e p stays = by (right s) refl
    where
      by : (t : Bool) → right s ≡ t → (n ∷ [], s) ≡ on_sheet (call c) s
      by false r = let q : n ≡ 20 = rw r at e in rw (r, q)
      by true r =
          let whole = refused-right r n (rw r at e) p in
          rw (stays, read-law s bytes r) at whole

  -- accepted
  pub accepted-on : verdict (rules_on c s) ≡ 0 → (answer_words (effect c (book_of s)).answer, layout (effect c (book_of s)).book) ≡ on_sheet (call c) s
  unfolding on_sheet judge step
  accepted-on e = by (right s) refl
    where
      by : (t : Bool) → right s ≡ t → (answer_words (effect c (book_of s)).answer, layout (effect c (book_of s)).book) ≡ on_sheet (call c) s
      by false r = absurd (omega (arith, rw r at e))
      by true r = let q : verdict (refusals c (book_of s)) ≡ 0 = rw r at e in rw (r, q)

-- a question that is answered
pub answered-on : (q : Question) (s : List ℕ) → Bytes s → right s ≡ true → verdict (rules_on (Ask q) s) ≡ 0
    → (0 ∷ asked q (book_of s), s) ≡ on_sheet (call (Ask q)) s
unfolding effect
answered-on q s bytes r e = ap (λ (t : List ℕ). (0 ∷ asked q (book_of s), t)) (sym (read-law s bytes r)) ∙ accepted-on (Ask q) s e

-- rules that others go on with: a refusal by the first is one by all
pub refused-first : (xs more : List (Rule ℕ)) {n : ℕ} → n ≡ verdict xs → n ≢ 0 → n ≡ verdict (xs ++ more)
refused-first xs more {n} e p = by (outcome xs)
  where
    by : Outcome xs → n ≡ verdict (xs ++ more)
    by (none h) = absurd (p (e ∙ none-verdict xs h))
    by (first g f) =
        let one : n ≡ g = e ∙ first-judge (λ given. given) 0 f in
        one ∙ sym (judge-append (λ given. given) xs more 0 ∙ first-judge (λ given. given) (verdict more) f)

-- what rules that give n make of it
pub given-judge : {B : Type 0} (f : ℕ → B) (xs : List (Rule ℕ)) (made : B) {n : ℕ} → n ≡ verdict xs → n ≢ 0 → f n ≡ judge f xs made
unfolding judge
given-judge f [] made e p = absurd (p e)
given-judge f ((g when true) ∷ xs) made e p = ap f e
given-judge f ((g when false) ∷ xs) made e p = given-judge f xs made e p

-- what is given has what every rule gives has
pub given-has : (P : ℕ → Type 0) (xs : List (Rule ℕ)) → AllGive P xs → {n : ℕ} → n ≡ verdict xs → n ≢ 0 → P n
given-has P xs h {n} e p = by (outcome xs)
  where
    by : Outcome xs → P n
    by (none k) = absurd (p (e ∙ none-verdict xs k))
    by (first g f) = rw (e ∙ first-judge (λ given. given) 0 f) (first_gives P h f)
