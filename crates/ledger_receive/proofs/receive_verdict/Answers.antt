-- `ledger_receive::receive_verdict` meets its contract. Assumes nothing.
use mathlib.Core.Bool.{not, not-not}
use mathlib.Core.List.{[], ◌∷◌}
use mathlib.Core.Path.{◌≡◌, sym, ap, ◌∙◌}
use borrow.Author.Tests.{le-ltb, lt-ltb}
use Rattle.laws.proofs.Bools.{passed}
use Rattle.refusals.specs.Judge.{◌when◌, verdict}
use Rattle.ledger_model.specs.Book.{desk, is_open}
use Rattle.ledger_sheet.proofs.Clauses.{right-parts}
use Rattle.ledger_layout.specs.Layout.{book_of}
use Rattle.ledger_judged.proofs.Judged.{stops, passes, none_left}
use Rattle.ledger_receive.specs.Receive.{receive_rules}
use Rattle.ledger_receive.proofs.receive_verdict.Goals as goal
use Rattle.ledger_receive.proofs.receive_verdict.Goals.{Else-desk-ge-DESKS}

pub returns-then-not-is_sheet : goal.returns-then-not-is_sheet
returns-then-not-is_sheet c = sym (stops _ _ (rw c.is_sheet.ensures at c.if-not-is_sheet.true-raw))

pub returns-then-desk-ge-DESKS : goal.returns-then-desk-ge-DESKS
returns-then-desk-ge-DESKS c = sym (passes _ _ (rw c.is_sheet.ensures at c.if-not-is_sheet.false-raw) ∙ stops _ _ (ap not (le-ltb _ _ c.if-desk-ge-DESKS.true)))

pub is_closed-requires : goal.is_closed-requires
is_closed-requires c =
    let r = passed c.is_sheet.ensures c.if-not-is_sheet.false-raw in
    ((r, (right-parts _ r).long), c.if-desk-ge-DESKS.false)

-- Where the first two rules pass.
there : (c : Else-desk-ge-DESKS) → let a = c.args in
    verdict (receive_rules a.desk a.s.now) ≡ verdict ((26 when is_open (desk (book_of a.s.now) a.desk)) ∷ [])
there c = passes _ _ (rw c.is_sheet.ensures at c.if-not-is_sheet.false-raw) ∙ passes _ _ (ap not (lt-ltb _ _ c.if-desk-ge-DESKS.false))

pub returns-then-not-is_closed : goal.returns-then-not-is_closed
returns-then-not-is_closed c = sym (there (goal.at.returns-then-not-is_closed c).Else-desk-ge-DESKS
    ∙ stops _ _ (rw (c.is_closed.ensures, not-not) at c.if-not-is_closed.true-raw))

pub returns : goal.returns
returns c = sym (there (goal.at.returns c).Else-desk-ge-DESKS ∙ passes _ _ (rw (c.is_closed.ensures, not-not) at c.if-not-is_closed.false-raw) ∙ none_left)
