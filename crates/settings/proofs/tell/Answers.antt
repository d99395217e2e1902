-- `tell` meets its contract. Assumes nothing.
use mathlib.Core.Path.{◌≡◌}
use native.Mathlib.Omega.{arith}
use Rattle.std.specs.Prelude.{Some, None}
use Rattle.std.proofs.lemmas.Result.{err_from_is_err_and}
use Rattle.refusals.specs.declared.Refusal.TheVariants.{NoSetting}
use Rattle.refusals.specs.Judge.{judge}
use Rattle.settings.proofs.Editions.{known-of}
use Rattle.settings.proofs.tell.Goals as goal

pub returns-in_err-x : goal.returns-in_err-x
unfolding judge
returns-in_err-x c =
    let p = err_from_is_err_and c.from_residual.result c.from_residual.ensures.1 in
    let none : c.args.found ≡ None = grind arith in
    let value = rw none at c.in_err-x.ensures.value in
    let why : c.in_err-x.field-0.0 ≡ NoSetting = cc in
    rw (p.1, p.2, why, none)

pub returns : goal.returns
unfolding judge
returns c =
    let found : c.args.found ≡ Some c.in_ok-x.x = grind arith in
    rw (found, (known-of c.in_ok-x.x.edition c.in_ok-try_from.field-0 c.in_ok-try_from.ensures).1)
