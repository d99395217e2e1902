-- What an exported call returns and leaves, from what the calls in it ensure. Assumes nothing.
use Prim.Native.Nat.{ℕ}
use mathlib.Core.List.{List}
use mathlib.Core.Logic.{◌≢◌}
use mathlib.Core.Path.{◌≡◌, ap}
use borrow.Author.Tests.{eq-eqb, ne_eqb}
use lib.ListN.{length}
use Rattle.refusals.specs.Table.{number_of}
use Rattle.refusals.specs.declared.Refusal.TheVariants.{AnswerLength}
use Rattle.sfdu_headers.specs.Words.{Word}
use Rattle.answers.specs.Numbers.{numbers_of}
use Rattle.host.specs.Answer.{answer_size}
use Rattle.host.specs.inner.Written.{Written}
use Rattle.host.specs.Exported.{exported, exported_as}

pub unwritten : {r : ℕ} (words : List Word) (answer : List ℕ) → length answer ≢ answer_size → r ≡ number_of AnswerLength → (r, answer) ≡ exported words answer
unfolding exported
unwritten words answer h e = rw (ne_eqb _ _ h, e)

pub unwritten-on : {Lent : Type 0} {r : ℕ} (read : List ℕ → List Word) (promised : Lent → List ℕ × Lent) (answer : List ℕ) (lent : Lent)
    → length answer ≢ answer_size → r ≡ number_of AnswerLength → (r, answer, lent) ≡ exported_as read promised answer lent
unfolding exported_as
unwritten-on read promised answer lent h e = rw (ne_eqb _ _ h, e)

pub written : {r : ℕ} {out numbers : List ℕ} {words : List Word} (promised : List Word) (answer : List ℕ) → length answer ≡ answer_size
    → words ≡ promised → numbers ≡ numbers_of words → Written r out numbers → (r, out) ≡ exported promised answer
unfolding exported
written promised answer h e n w = rw (eq-eqb _ _ h, w.0, w.1, n, e)

-- Of a call that promises numbers, or one number, or a test; and of one that promises numbers and a sheet, which it leaves as it is.
pub written_as : {A : Type 0} {r : ℕ} {out numbers : List ℕ} {found : A} (read : A → List Word) (promised : A) (answer : List ℕ)
    → length answer ≡ answer_size → found ≡ promised → numbers ≡ numbers_of (read found) → Written r out numbers
    → (r, out) ≡ exported (read promised) answer
written_as read promised answer h e = written (read promised) answer h (ap read e)

pub written-asked : {S : Type 0} {r : ℕ} {out numbers words : List ℕ} {left : S} (read : List ℕ → List Word) (promised : List ℕ × S) (answer : List ℕ)
    → length answer ≡ answer_size → (words, left) ≡ promised → numbers ≡ numbers_of (read words) → Written r out numbers
    → (r, out) ≡ exported (read promised.0) answer
written-asked read promised answer h e = written_as read promised.0 answer h (ap (λ o. o.0) e)

pub written_on : {Lent : Type 0} {r : ℕ} {out numbers words : List ℕ} {left : Lent} (read : List ℕ → List Word) (promised : Lent → List ℕ × Lent)
    (answer : List ℕ) (lent : Lent) → length answer ≡ answer_size → (words, left) ≡ promised lent → numbers ≡ numbers_of (read words)
    → Written r out numbers → (r, out, left) ≡ exported_as read promised answer lent
unfolding exported_as
written_on read promised answer lent h e n w = rw (eq-eqb _ _ h, w.0, w.1, n, ← e)
