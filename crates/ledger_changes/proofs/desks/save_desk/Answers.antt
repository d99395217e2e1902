-- `desks::save_desk` meets its contract. Assumes nothing.
use mathlib.Core.List.{[], ◌∷◌}
use mathlib.Core.Path.{ap, ◌∙◌}
use borrow.Author.Tests.{lt-ltb}
use Rattle.laws.proofs.Bools.{failed, passed}
use Rattle.ledger_layout.specs.Layout.{laid_out}
use Rattle.ledger_layout.proofs.Right.{reads-back}
use Rattle.ledger_layout.proofs.Writers.{laid-sheet, stored-fine}
use Rattle.ledger_changes.proofs.Saves.{save-current, save-stale}
use Rattle.ledger_changes.proofs.desks.save_desk.Goals as goal

pub returns-then-not-is_current : goal.returns-then-not-is_current
returns-then-not-is_current c =
    let pre = c.requires in
    ap (λ t. (31 ∷ [], t)) c.clear_desk.ensures
    ∙ ap laid_out (save-stale _ _ (lt-ltb _ _ pre.1) pre.2 (failed c.is_current.ensures c.if-not-is_current.true-raw))

pub clear_desk-requires-2 : goal.clear_desk-requires-2
clear_desk-requires-2 c =
    let pre = c.requires in
    (rw c.store.ensures (laid-sheet _ (stored-fine _ c.slice_known-1.given pre.0.0 _ pre.2)), pre.1)

pub returns : goal.returns
returns c =
    let pre = c.requires in
    let fine = stored-fine _ c.slice_known-1.given pre.0.0 _ pre.2 in
    ap (λ t. (0 ∷ [], t)) (rw (c.store.ensures, reads-back _ fine) at c.clear_desk-2.ensures)
    ∙ ap laid_out (save-current _ _ (lt-ltb _ _ pre.1) pre.2 (passed c.is_current.ensures c.if-not-is_current.false-raw))
