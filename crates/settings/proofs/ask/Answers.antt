-- `ask` meets its contract. Assumes nothing.
use mathlib.Core.Bool.{true}
use mathlib.Core.Path.{◌≡◌, refl, sym, ◌∙◌}
use Rattle.std.specs.Prelude.{Option, Some, None}
use Rattle.laws.proofs.Bools.{failed, passed}
use Rattle.settings.specs.declared.Setting.{Setting}
use Rattle.settings.specs.Model.{known}
use Rattle.settings.specs.inner.Known.{IsKnown}
use Rattle.settings.proofs.Known.{found-known}
use Rattle.settings.proofs.Clauses.{sized}
use Rattle.settings.proofs.Calls.{not_right, asked}
use Rattle.settings.proofs.ask.Goals as goal

pub returns-then-not-is_settings : goal.returns-then-not-is_settings
returns-then-not-is_settings c = not_right _ _ (failed c.is_settings.ensures c.if-not-is_settings.true-raw)

pub latest-requires : goal.latest-requires
latest-requires c = sized _ (passed c.is_settings.ensures c.if-not-is_settings.false-raw)

-- What is found on a right sheet has a known edition.
all-known : (found : Option Setting) → ((x : Setting) → found ≡ Some x → known x.edition ≡ true) → IsKnown found
all-known None h = tt
all-known (Some x) h = h x refl

pub tell-requires : goal.tell-requires
tell-requires c =
    let is_right = passed c.is_settings.ensures c.if-not-is_settings.false-raw in
    all-known _ (λ x e. found-known c.args.mission c.args.day c.args.s.now x is_right (sym c.latest.ensures ∙ e))

pub returns : goal.returns
returns c =
    let g = c.args in
    let is_right = passed c.is_settings.ensures c.if-not-is_settings.false-raw in
    let law = asked g.s.now c.shared_slice_known-1.given is_right g.mission g.day in
    rw (c.tell.ensures, c.latest.ensures) law
