-- The words of an answer: 0 and the words of its values, or the words of its refusal. Assumes nothing.
use Rattle.std.specs.Prelude.{ℕ, ◌≡◌, List, [], ◌∷◌, Result, Ok, Err}
use Rattle.refusals.specs.declared.Refusal.{Refusal}
use Rattle.refusals.specs.Table.{number_of}

abbrev pub result_words : {A E : Type 0} → (refusal : E → List ℕ) → (values : A → List ℕ) → Result A E → List ℕ
result_words refusal values (Ok x) = 0 ∷ values x
result_words refusal values (Err e) = refusal e

-- The words of a refusal that has no second number, of an answer without values, and of one with a single number.
abbrev pub refusal_word : Refusal → List ℕ
refusal_word r = number_of r ∷ []

abbrev pub no_words : Unit {0} → List ℕ
no_words u = []

abbrev pub one_word : ℕ → List ℕ
one_word n = n ∷ []

-- The words of a call's answer that is refused without a second number.
abbrev pub answer_words : {A : Type 0} → (values : A → List ℕ) → Result A Refusal → List ℕ
answer_words values answer = result_words refusal_word values answer

-- Different things have different words.
abbrev pub Different : {A : Type 0} → (A → List ℕ) → Type 0
Different {A = A} words = (a b : A) → words a ≡ words b → a ≡ b
