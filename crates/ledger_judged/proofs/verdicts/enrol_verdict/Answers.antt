-- `enrol_verdict` meets its contract. Assumes nothing.
use mathlib.Core.Bool.{true, false, not}
use mathlib.Core.List.{[], ◌∷◌}
use mathlib.Core.Path.{◌≡◌, sym, ap, ◌∙◌}
use Rattle.std.proofs.Common.{rules}
use Rattle.std.specs.Option.{is_none}
use native.Mathlib.Omega.{arith}
use Rattle.refusals.specs.Judge.{◌when◌, verdict}
use Rattle.keys.specs.Key.{valid_key}
use Rattle.ledger_model.specs.Book.{all_used, lowest_free}
use Rattle.ledger_model.specs.Step.{Enrol, refusals}
use Rattle.ledger_layout.specs.Layout.{book_of}
use Rattle.ledger_layout.specs.inner.Rules.{rules_on}
use Rattle.ledger_layout.specs.inner.Scans.{found}
use Rattle.ledger_layout.proofs.Scans.{none-free}
use Rattle.ledger_judged.proofs.Judged.{Begun, begun, handed, refused-first, stops, passes, none_left}
use Rattle.ledger_judged.proofs.verdicts.enrol_verdict.Goals as goal
use Rattle.ledger_judged.proofs.verdicts.enrol_verdict.Goals.{In_ok-key_verdict, Else-has_key}

pub returns-in_err-key_verdict : goal.returns-in_err-key_verdict
unfolding refusals
returns-in_err-key_verdict c = rw (handed c.from_residual.ensures) (refused-first _ c.requires _ _ c.in_err-key_verdict.ensures _)

-- Where the first two rules pass.
begins : (c : In_ok-key_verdict) → let a = c.args in Begun a.s.now (22 when not (valid_key a.key))
begins c = begun _ c.requires _ (omega arith) c.in_ok-key_verdict.ensures

pub returns-then-not-is_number : goal.returns-then-not-is_number
unfolding refusals
returns-then-not-is_number c = sym ((begins (goal.at.returns-then-not-is_number c).In_ok-key_verdict).rest _
    ∙ stops _ _ (rw c.is_number.ensures at c.if-not-is_number.true-raw))

pub has_key-requires : goal.has_key-requires
has_key-requires c = (begins (goal.at.has_key-requires c).In_ok-key_verdict).is-sheet

pub returns-then-has_key : goal.returns-then-has_key
unfolding refusals
returns-then-has_key c =
    sym ((begins (goal.at.returns-then-has_key c).In_ok-key_verdict).rest _
    ∙ passes _ _ (rw c.is_number.ensures at c.if-not-is_number.false-raw)
    ∙ stops _ _ (rw c.has_key.ensures at c.if-has_key.true))

pub free_row-requires : goal.free_row-requires
free_row-requires c = (begins (goal.at.free_row-requires c).In_ok-key_verdict).is-sheet

-- Where the first four pass.
new : (c : Else-has_key) → let a = c.args in
    verdict (rules_on (Enrol a.key a.first) a.s.now) ≡ verdict ((24 when all_used (book_of a.s.now).places) ∷ [])
unfolding refusals
new c =
    (begins (goal.at.Else-has_key c).In_ok-key_verdict).rest _
    ∙ passes _ _ (rw c.is_number.ensures at c.if-not-is_number.false-raw)
    ∙ passes _ _ (rw c.has_key.ensures at c.if-has_key.false)

pub returns-then-is_none : goal.returns-then-is_none
returns-then-is_none c =
    let b = book_of c.args.s.now in
    let same = ap is_none c.free_row.ensures in
    let full : is_none (found (lowest_free b.places)) ≡ true = sym same ∙ search rules in
    sym (new (goal.at.returns-then-is_none c).Else-has_key ∙ stops _ _ (sym (none-free _) ∙ full))

pub returns : goal.returns
returns c =
    let b = book_of c.args.s.now in
    let same = ap is_none c.free_row.ensures in
    let free : is_none (found (lowest_free b.places)) ≡ false = sym same ∙ search rules in
    sym (new (goal.at.returns c).Else-has_key ∙ passes _ _ (sym (none-free _) ∙ free) ∙ none_left)
