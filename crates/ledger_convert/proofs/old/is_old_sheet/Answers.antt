-- `old::is_old_sheet` meets its contract. Assumes nothing.
use native.Mathlib.Omega.{arith}
use borrow.Author.Tests.{eq-eqb, ne_eqb}
use mathlib.Core.Bool.{and_assoc}
use Rattle.laws.proofs.Bools.{failed, passed}
use Rattle.ledger_convert.specs.Old.{right}
use Rattle.ledger_convert.proofs.Clauses.{header-few}
use Rattle.ledger_convert.proofs.old.is_old_sheet.Goals as goal

pub returns-then-s-ne-SHEET : goal.returns-then-s-ne-SHEET
unfolding right
returns-then-s-ne-SHEET c = rw (ne_eqb _ _ c.if-s-ne-SHEET.true)

pub returns-then-not-is_header : goal.returns-then-not-is_header
unfolding right
returns-then-not-is_header c = rw (eq-eqb _ _ c.if-s-ne-SHEET.false, failed c.is_header.ensures c.if-not-is_header.true-raw)

pub are_rows-rows-requires : goal.are_rows-rows-requires
are_rows-rows-requires c = record { long = omega arith; few = header-few _ (passed c.is_header.ensures c.if-not-is_header.false-raw) }

pub is_rest-rest-requires : goal.is_rest-rest-requires
is_rest-rest-requires c = record { long = omega arith; few = header-few _ (passed c.is_header.ensures c.if-not-is_header.false-raw) }

pub returns : goal.returns
unfolding right
returns c =
    rw (
      eq-eqb _ _ c.if-s-ne-SHEET.false,
      passed c.is_header.ensures c.if-not-is_header.false-raw,
      ← c.are_rows-rows.ensures,
      and_assoc,
      ← c.is_rest-rest.ensures,
    )
