-- What a verdict says. If it refuses, the call answers the refusal and leaves the sheet unchanged. If it does not, no rule holds, so what the
-- functions on a right sheet require is true. Assumes nothing.
use Prim.Native.Nat.{ℕ, ◌<◌}
use native.Mathlib.Omega.{arith}
use mathlib.Core.Bool.{Bool, true, false, not, false≢true}
use mathlib.Core.List.{List, [], ◌∷◌, ◌++◌}
use mathlib.Core.Path.{◌≡◌, refl, sym, ap, ◌∙◌}
use lib.Dec.{eqb, lit<}
use borrow.Author.Tests.{not-false}
use Rattle.std.specs.Prelude.{Result, Ok, Err}
use Rattle.std.specs.Result.{IsErr, IsErrAnd}
use Rattle.refusals.specs.declared.Refusal.{Refusal}
use Rattle.refusals.specs.Table.{number_of}
use Rattle.refusals.specs.Judge.{Rule, ◌when◌, judge, verdict}
use Rattle.refusals.proofs.Laws.{number-positive}
use Rattle.refusals.proofs.Judged.{NoneHolds, Numbered, verdict-none}
use Rattle.octets.proofs.Laws.{Bytes}
use Rattle.ledger_model.specs.Book.{Book}
use Rattle.ledger_model.specs.Step.{Question, asked, Find, RowReport, FirstGap, RowStream, DeskState, Unsaved}
use Rattle.ledger_model.specs.Step.{Call, Enrol, Ask, Open, Mark, Save, Drop, Strike, answer_words, refusals, effect, after_refusal}
use Rattle.ledger_sheet.specs.Sheet.{right}
use Rattle.ledger_sheet.proofs.Clauses.{right-parts}
use Rattle.ledger_layout.specs.Layout.{layout, book_of, call, on_sheet}
use Rattle.ledger_layout.specs.inner.Rules.{rules_on, IsSheet}
use Rattle.ledger_layout.proofs.Rules.{refused-on, accepted-on, answered-on, given-has}
use Rattle.ledger_layout.proofs.Rules as Rules

-- where the verdict is 0, no rule holds
none-holds : (rows : List (Rule ℕ)) → 0 ≡ verdict rows → Numbered rows → NoneHolds rows
none-holds rows e n = verdict-none rows n (sym e)

-- what `?` hands on is the refusal that it met
pub handed : {A E : Type 0} {r : Result A E} {q : E} → IsErr r × IsErrAnd r (λ e. e ≡ q) → r ≡ Err q
handed {r = Ok x} h = absurd (false≢true h.0)
handed {r = Err e} h = ap Err h.1

-- ---- the two rules that a call begins with: the sheet's, and that of the key, the desk or the row that it names

abbrev given : Rule ℕ → ℕ
given (n when c) = n

abbrev holds : Rule ℕ → Bool
holds (n when c) = c

-- where neither holds, the sheet is right, and the others decide
pub record Begun (s : List ℕ) (rule : Rule ℕ) : Type 0 where
  pub is-sheet : IsSheet s
  pub passed : holds rule ≡ false
  pub rest : (more : List (Rule ℕ)) → verdict ((20 when not (right s)) ∷ rule ∷ more) ≡ verdict more

module _ (s : List ℕ) {fine : Bool} (is : fine ≡ right s) (rule : Rule ℕ) where
  pub begun : 0 < given rule → 0 ≡ verdict ((20 when not fine) ∷ rule ∷ []) → Begun s rule
  unfolding judge
  begun p e = by rule e p
    where
      by : (rule : Rule ℕ) → 0 ≡ verdict ((20 when not fine) ∷ rule ∷ []) → 0 < given rule → Begun s rule
      by (n when c) e p =
          let h = none-holds ((20 when not fine) ∷ (n when c) ∷ []) e (omega arith, (p, tt)) in
          let r = sym is ∙ not-false fine h.0 in
          record { is-sheet = (r, (right-parts s r).long); passed = h.1.0; rest = λ more. rw (r, h.1.0) }

  -- a refusal by these two is one by the whole list
  pub refused-first : (q : Refusal) → number_of q ≡ verdict ((20 when not fine) ∷ rule ∷ []) → (more : List (Rule ℕ))
      → number_of q ≡ verdict ((20 when not (right s)) ∷ rule ∷ more)
  unfolding judge
  refused-first q e more = rw (← is) (e ∙ by fine rule (λ z. number-positive q (e ∙ z)))
    where
      by : (r : Bool) (rule : Rule ℕ) → (verdict ((20 when not r) ∷ rule ∷ []) ≡ 0 → ⊥)
          → verdict ((20 when not r) ∷ rule ∷ []) ≡ verdict ((20 when not r) ∷ rule ∷ more)
      by false rule l = refl
      by true (n when true) l = refl
      by true (n when false) l = absurd (l refl)

-- one rule more
module _ (n : ℕ) {c : Bool} (more : List (Rule ℕ)) where
  pub stops : c ≡ true → verdict ((n when c) ∷ more) ≡ n
  unfolding judge
  stops h = rw h

  pub passes : c ≡ false → verdict ((n when c) ∷ more) ≡ verdict more
  unfolding judge
  passes h = rw h

pub none_left : verdict [] ≡ 0
unfolding judge
none_left = refl

-- ---- the call that these rules judge

-- no rule of the model's has the number 0
numbered : (c : Call) (b : Book) → Numbered (refusals c b)
unfolding refusals
numbered (Enrol key first) b = (lit< tt, (lit< tt, (lit< tt, (lit< tt, tt))))
numbered (Ask (Find key)) b = (lit< tt, (lit< tt, tt))
numbered (Ask (RowReport r)) b = (lit< tt, tt)
numbered (Ask FirstGap) b = tt
numbered (Ask (RowStream r)) b = (lit< tt, tt)
numbered (Ask (DeskState d)) b = (lit< tt, tt)
numbered (Ask (Unsaved d)) b = (lit< tt, (lit< tt, tt))
numbered (Open d r) b = (lit< tt, (lit< tt, (lit< tt, tt)))
numbered (Mark true d n) b = (lit< tt, (lit< tt, (lit< tt, (lit< tt, tt))))
numbered (Mark false d n) b = (lit< tt, (lit< tt, (lit< tt, (lit< tt, tt))))
numbered (Save d) b = (lit< tt, (lit< tt, (lit< tt, tt)))
numbered (Drop d) b = (lit< tt, (lit< tt, tt))
numbered (Strike r) b = (lit< tt, (lit< tt, tt))

module _ (c : Call) (s : List ℕ) where
  -- refused: the answer is the refusal, and the sheet stays
  pub refused-is : Bytes s → ((number : ℕ) → after_refusal number c (book_of s) ≡ book_of s) → (q : Refusal) → number_of q ≡ verdict (rules_on c s)
      → (number_of q ∷ [], s) ≡ on_sheet (call c) s
  refused-is bytes stays q e = refused-on c s bytes (number_of q) e (number-positive q) (stays (number_of q))

  -- accepted: the call has its effect
  pub accepted-is : 0 ≡ verdict (rules_on c s) → (answer_words (effect c (book_of s)).answer, layout (effect c (book_of s)).book) ≡ on_sheet (call c) s
  accepted-is e = accepted-on c s (sym e)

  -- and the sheet is right, and no rule of the model's holds
  pub fine-is : 0 ≡ verdict (rules_on c s) → IsSheet s × NoneHolds (refusals c (book_of s))
  fine-is e =
      let h = none-holds (rules_on c s) e (lit< tt, numbered c (book_of s)) in
      let r = not-false (right s) h.0 in
      ((r, (right-parts s r).long), h.1)

-- a question is answered
pub answered-is : (q : Question) (s : List ℕ) → Bytes s → 0 ≡ verdict (rules_on (Ask q) s) → (0 ∷ asked q (book_of s), s) ≡ on_sheet (call (Ask q)) s
answered-is q s bytes e = answered-on q s bytes (fine-is (Ask q) s e).0.0 (sym e)

-- a call whose rules begin with those of a drop, and of whose refusals 31 alone changes the book
pub begun-refused : (c : Call) (d : ℕ) (s : List ℕ) (more : List (Rule ℕ)) → Bytes s → refusals c (book_of s) ≡ refusals (Drop d) (book_of s) ++ more
    → ((number : ℕ) → eqb number 31 ≡ false → after_refusal number c (book_of s) ≡ book_of s)
    → (q : Refusal) → number_of q ≡ verdict (rules_on (Drop d) s) → (number_of q ∷ [], s) ≡ on_sheet (call c) s
unfolding refusals
begun-refused c d s more bytes begins stays q number =
    let drops = rules_on (Drop d) s in
    let other = given-has (λ (n : ℕ). eqb n 31 ≡ false) drops (refl, (refl, (refl, tt))) number (number-positive q) in
    let first : number_of q ≡ verdict (drops ++ more) = Rules.refused-first drops more number (number-positive q) in
    let all : number_of q ≡ verdict (rules_on c s) = first ∙ ap (λ rules. verdict ((20 when not (right s)) ∷ rules)) (sym begins) in
    refused-on c s bytes (number_of q) all (number-positive q) (stays (number_of q) other)
