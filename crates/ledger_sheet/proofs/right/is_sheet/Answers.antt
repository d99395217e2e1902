-- `right::is_sheet` meets its contract. Assumes nothing.
use borrow.Author.Tests.{eq-eqb, ne_eqb}
use Rattle.laws.proofs.Bools.{failed, passed}
use Rattle.ledger_sheet.specs.Sheet.{right}
use Rattle.ledger_sheet.proofs.right.is_sheet.Goals as goal

pub returns-in_default : goal.returns-in_default
unfolding right
returns-in_default c = rw (ne_eqb _ _ c.in_default.ensures.1)

pub returns-then-not-is_header : goal.returns-then-not-is_header
unfolding right
returns-then-not-is_header c =
    let whole = c.in-Ok.ensures.1 in
    let header = rw whole.same at c.is_header.ensures in
    rw (eq-eqb _ _ whole.long, failed header c.if-not-is_header.true-raw)

pub returns-in_default-rows_end : goal.returns-in_default-rows_end
unfolding right
returns-in_default-rows_end c =
    let whole = c.in-Ok.ensures.1 in
    let header = rw whole.same at c.is_header.ensures in
    rw (eq-eqb _ _ whole.long, passed header c.if-not-is_header.false-raw, rw whole.same at c.in_default-rows_end.ensures)

pub are_desks-requires : goal.are_desks-requires
are_desks-requires c = rw c.in-Some.is at c.rows_end.ensures

pub returns : goal.returns
unfolding right
returns c =
    let whole = c.in-Ok.ensures.1 in
    let header = rw whole.same at c.is_header.ensures in
    rw (eq-eqb _ _ whole.long, passed header c.if-not-is_header.false-raw, rw whole.same at c.are_desks.ensures)
