-- What a `?` hands on, and what `ok` makes of a result. Assumes nothing.
use mathlib.Core.Path.{◌≡◌, refl, ap, ◌∙◌}
use Rattle.std.specs.Prelude.{Some, None, Result, Ok, Err}
use Rattle.std.specs.Result.{IsErrAnd, result_ok}
use Rattle.std.proofs.lemmas.Result.{err_from_is_err_and}

-- A `?` that makes this error of a refusal.
pub handed-on : {A E : Type 0} (r : Result A E) {e : E} → IsErrAnd r (λ given. given ≡ e) → r ≡ Err e
handed-on r h = let given = err_from_is_err_and r h in given.1 ∙ ap Err given.2

-- `ok` gives a value: the result has it. It gives none: the result is an error.
pub ok-some : {A E : Type 0} (r : Result A E) (x : A) → result_ok r ≡ Some x → r ≡ Ok x
ok-some (Ok y) x e = ap Ok (cc e)
ok-some (Err f) x e = cc e

pub ok-none : {A E : Type 0} (r : Result A E) → result_ok r ≡ None → (f : E) × (r ≡ Err f)
ok-none (Ok y) e = cc e
ok-none (Err f) e = (f, refl)
