-- `is_row_of` meets its contract. Assumes nothing.
use mathlib.Core.Path.{sym, ◌∙◌}
use Rattle.laws.proofs.Bools.{failed, passed}
use Rattle.ledger_layout.proofs.Scans.{row_of}
use Rattle.ledger_layout.proofs.lookup.is_row_of.Goals as goal

pub returns-then-not-is_used : goal.returns-then-not-is_used
returns-then-not-is_used c =
    let pre = c.requires in
    sym (row_of _ _ _ pre.1 ∙ rw (failed c.is_used.ensures c.if-not-is_used.true-raw))

pub returns : goal.returns
returns c =
    let pre = c.requires in
    sym (row_of _ _ _ pre.1
    ∙ rw (passed c.is_used.ensures c.if-not-is_used.false-raw, c.key_at.ensures, c.row_at.ensures))
