-- `add` meets its contract. Assumes nothing.
use native.Mathlib.Omega.{arith}
use mathlib.Core.Bool.{true}
use mathlib.Core.Path.{◌≡◌, sym, ◌∙◌}
use Rattle.laws.proofs.Bools.{failed, passed}
use Rattle.octets.proofs.Laws.{Bytes}
use Rattle.settings.specs.Model.{known, holds}
use Rattle.settings.specs.Sheet.{settings_of, right}
use Rattle.settings.proofs.Clauses.{sized}
use Rattle.settings.proofs.Calls.{not_right, unknown, twice, full, accepted}
use Rattle.std.proofs.lemmas.Result.{err_from_is_err_and}
use Rattle.settings.proofs.Editions.{known-of, unknown-of}
use Rattle.settings.proofs.add.Goals as goal
use Rattle.settings.proofs.add.Goals.{Else-not-is_settings, In_ok-try_from, After-has}

-- what is known where the sheet is right, where the edition is known, and where the search has answered
is_right : (c : Else-not-is_settings) → right c.args.s.now ≡ true
is_right c = passed c.is_settings.ensures c.if-not-is_settings.false-raw

is-bytes : (c : Else-not-is_settings) → Bytes c.args.s.now
is-bytes c = c.slice_known-1.given

edition-known : (c : In_ok-try_from) → known c.args.edition ≡ true
edition-known c = (known-of c.args.edition c.in_ok-try_from.field-0 c.in_ok-try_from.ensures).0

searched : (c : After-has) → let g = c.args in
    c.has.result ≡ holds g.mission g.day (settings_of g.s.now)
searched c = rw (← c.count-used.ensures) c.has.ensures

pub returns-then-not-is_settings : goal.returns-then-not-is_settings
returns-then-not-is_settings c = not_right _ _ (failed c.is_settings.ensures c.if-not-is_settings.true-raw)

pub returns-in_err-try_from : goal.returns-in_err-try_from
returns-in_err-try_from c =
    let p = err_from_is_err_and c.from_residual.result c.from_residual.ensures.1 in
    let u = unknown-of c.args.edition _ c.in_err-try_from.ensures in
    let none = unknown _ (is-bytes (goal.at.returns-in_err-try_from c).Else-not-is_settings)
    (is_right (goal.at.returns-in_err-try_from c).Else-not-is_settings) c.args.mission c.args.edition c.args.day c.args.frame u.0 in
    rw (p.1, p.2, u.1) none

pub count-used-requires : goal.count-used-requires
count-used-requires c = omega (arith, (sized _ (is_right (goal.at.count-used-requires c).Else-not-is_settings)).long)

pub has-requires : goal.has-requires
has-requires c =
    let z = sized _ (is_right ((goal.at.has-requires c).Else-not-is_settings)) in omega (arith, z.long, z.few, c.count-used.ensures)

pub returns-then-has : goal.returns-then-has
returns-then-has c =
    twice _ (is-bytes (goal.at.returns-then-has c).Else-not-is_settings) (is_right (goal.at.returns-then-has c).Else-not-is_settings) _ _ _ _
    (edition-known (goal.at.returns-then-has c).In_ok-try_from) (sym (searched (goal.at.returns-then-has c).After-has) ∙ c.if-has.true)

pub returns-then-used-eq-PLACES : goal.returns-then-used-eq-PLACES
returns-then-used-eq-PLACES c =
    let new = sym (searched (goal.at.returns-then-used-eq-PLACES c).After-has) ∙ c.if-has.false in
    full _ (is-bytes (goal.at.returns-then-used-eq-PLACES c).Else-not-is_settings) (is_right (goal.at.returns-then-used-eq-PLACES c).Else-not-is_settings)
    _ _ _ _ (edition-known (goal.at.returns-then-used-eq-PLACES c).In_ok-try_from) new (sym c.count-used.ensures ∙ c.if-used-eq-PLACES.true)

pub put_setting-requires : goal.put_setting-requires
put_setting-requires c =
    let z = sized _ (is_right ((goal.at.put_setting-requires c).Else-not-is_settings)) in
    (z.long, omega (arith, c.count-used.ensures, z.few, c.if-used-eq-PLACES.false))

pub returns : goal.returns
returns c =
    let used = c.count-used.ensures in
    let few = (sized _ (is_right (goal.at.returns c).Else-not-is_settings)).few in
    let room = c.if-used-eq-PLACES.false in
    rw (c.put_setting.ensures, used)
    (accepted _ (is-bytes (goal.at.returns c).Else-not-is_settings) (is_right (goal.at.returns c).Else-not-is_settings) _ _ _ _
    (edition-known (goal.at.returns c).In_ok-try_from) (sym (searched (goal.at.returns c).After-has) ∙ c.if-has.false) (omega arith))
