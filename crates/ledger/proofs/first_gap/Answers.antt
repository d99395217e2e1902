-- `first_gap` meets its contract. Assumes nothing.
use mathlib.Core.List.{◌∷◌}
use mathlib.Core.Path.{sym, ap, ◌∙◌}
use Rattle.ledger_sheet.proofs.Clauses.{right-parts}
use Rattle.refusals.specs.Judge.{judge}
use Rattle.ledger_model.specs.Step.{FirstGap, refusals, asked}
use Rattle.ledger_layout.proofs.Rules.{not_right, answered-on}
use Rattle.ledger.proofs.first_gap.Goals as goal

pub first_gap-requires : goal.first_gap-requires
first_gap-requires c = (right-parts _ (sym c.is_sheet.ensures ∙ c.if-is_sheet.true)).long

pub returns : goal.returns
returns c = not_right _ c.args.s.now (sym c.is_sheet.ensures ∙ c.if-is_sheet.false)

pub returns-then-is_sheet : goal.returns-then-is_sheet
unfolding judge refusals asked
returns-then-is_sheet c =
    let s = c.args.s.now in
    let right = sym c.is_sheet.ensures ∙ c.if-is_sheet.true in
    ap (λ w. (0 ∷ w, s)) c.first_gap.ensures ∙ answered-on FirstGap s c.shared_slice_known-1.given right (rw right)
