-- `ledger_judged::find` meets its contract. Assumes nothing.
use native.Mathlib.Omega.{arith}
use mathlib.Core.Bool.{not}
use mathlib.Core.Path.{◌≡◌, refl, sym, ap, ◌∙◌}
use Rattle.std.proofs.Common.{None, Some, rules}
use Rattle.refusals.specs.declared.Refusal.TheVariants.{NoRow}
use Rattle.refusals.specs.Judge.{◌when◌}
use Rattle.keys.specs.Key.{valid_key}
use Rattle.ledger_model.specs.Step.{Ask, Find, asked, refusals, after_refusal}
use Rattle.ledger_layout.proofs.Scans.{none-with, some-with}
use Rattle.ledger_judged.proofs.Judged.{Begun, begun, handed, refused-first, refused-is, answered-is, stops, passes, none_left}
use Rattle.ledger_judged.proofs.find.Goals as goal
use Rattle.ledger_judged.proofs.find.Goals.{In_ok-key_verdict}

pub returns-in_err-key_verdict : goal.returns-in_err-key_verdict
unfolding refusals after_refusal
returns-in_err-key_verdict c =
    let g = c.args in
    rw (handed c.from_residual.ensures)
    (refused-is (Ask (Find g.key)) g.s.now c.shared_slice_known-1.given (λ _. refl) _
    (refused-first _ c.requires _ _ c.in_err-key_verdict.ensures _))

-- Where the first two rules pass.
begins : (c : In_ok-key_verdict) → let a = c.args in Begun a.s.now (22 when not (valid_key a.key))
begins c = begun _ c.requires _ (omega arith) c.in_ok-key_verdict.ensures

pub find_row-requires : goal.find_row-requires
find_row-requires c = (begins c).is-sheet

pub returns-in_err-row : goal.returns-in_err-row
unfolding refusals after_refusal
returns-in_err-row c =
    let g = c.args in
    let none : c.find_row.result ≡ None = search rules in
    let why : c.in_err-row.field-0.0 ≡ NoRow = search rules in
    let fails = none-with g.s.now g.key (sym c.find_row.ensures ∙ none) in
    rw (handed c.from_residual-in_err-row.ensures, why)
    (refused-is (Ask (Find g.key)) g.s.now c.shared_slice_known-1.given (λ _. refl) NoRow
    (sym ((begins (goal.at.returns-in_err-row c).In_ok-key_verdict).rest _ ∙ stops _ _ (ap not fails))))

pub returns : goal.returns
unfolding refusals asked
returns c =
    let g = c.args in
    let some : c.find_row.result ≡ Some c.in_ok-row.row = search rules in
    let found = some-with g.s.now g.key (sym c.find_row.ensures ∙ some) in
    rw found.1
    (answered-is (Find g.key) g.s.now c.shared_slice_known-1.given
    (sym ((begins (goal.at.returns c).In_ok-key_verdict).rest _ ∙ passes _ _ (ap not found.0) ∙ none_left)))
