-- Different answers have different words, where their values and their refusals have. Assumes nothing.
use Prim.Native.Nat.{ℕ}
use mathlib.Core.Path.{refl, sym, ap}
use mathlib.Core.List.{List, ◌∷◌}
use mathlib.Core.Logic.{◌≢◌}
use Rattle.std.specs.Prelude.{Ok, Err}
use Rattle.refusals.specs.Words.{result_words, refusal_word, no_words, one_word, answer_words, Different}
use Rattle.refusals.proofs.Laws.{number-injective, number-positive}

-- No refusal begins with a 0, as an answer that is not refused does.
abbrev pub Refuses : {E : Type 0} → (E → List ℕ) → Type 0
Refuses {E = E} refusal = (e : E) (values : List ℕ) → refusal e ≢ 0 ∷ values

pub results-differ : {A E : Type 0} (refusal : E → List ℕ) (values : A → List ℕ)
    → Refuses refusal → Different refusal → Different values → Different (result_words refusal values)
results-differ refusal values refuses re rv (Ok x) (Ok y) e = ap Ok (rv x y (cc))
results-differ refusal values refuses re rv (Ok x) (Err r) e = absurd (refuses r (values x) (sym e))
results-differ refusal values refuses re rv (Err r) (Ok x) e = absurd (refuses r (values x) e)
results-differ refusal values refuses re rv (Err r) (Err s) e = ap Err (re r s e)

pub refusals-differ : Different refusal_word
refusals-differ r s e = number-injective r s (cc)

pub refusals-refuse : Refuses refusal_word
refusals-refuse r values e = number-positive r (cc)

pub one-differs : Different one_word
one-differs n m e = cc

pub none-differs : Different no_words
none-differs u v e = refl

pub answers-differ : {A : Type 0} (values : A → List ℕ) → Different values → Different (answer_words values)
answers-differ values rv = results-differ refusal_word values refusals-refuse refusals-differ rv
