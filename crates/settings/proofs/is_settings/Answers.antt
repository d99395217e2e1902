-- `is_settings` meets its contract. Assumes nothing.
use native.Mathlib.Omega.{arith}
use borrow.Author.Tests.{eq-eqb, ne_eqb}
use Rattle.laws.proofs.Bools.{failed, passed}
use Rattle.settings.specs.Sheet.{right}
use Rattle.settings.proofs.Clauses.{header-parts}
use Rattle.settings.proofs.is_settings.Goals as goal

pub returns-then-s-ne-SHEET : goal.returns-then-s-ne-SHEET
unfolding right
returns-then-s-ne-SHEET c = rw (ne_eqb _ _ c.if-s-ne-SHEET.true)

pub returns-then-not-is_header : goal.returns-then-not-is_header
unfolding right
returns-then-not-is_header c = rw (eq-eqb _ _ c.if-s-ne-SHEET.false, failed c.is_header.ensures c.if-not-is_header.true-raw)

pub are_entries-entries-requires : goal.are_entries-entries-requires
are_entries-entries-requires c = record { long = omega arith; few = (header-parts _ (passed c.is_header.ensures c.if-not-is_header.false-raw)).few }

pub is_unused_zero-unused-requires : goal.is_unused_zero-unused-requires
is_unused_zero-unused-requires c = record { long = omega arith; few = (header-parts _ (passed c.is_header.ensures c.if-not-is_header.false-raw)).few }

pub returns : goal.returns
unfolding right
returns c =
    let long = eq-eqb _ _ c.if-s-ne-SHEET.false in
    rw (long, passed c.is_header.ensures c.if-not-is_header.false-raw, ← c.are_entries-entries.ensures, ← c.is_unused_zero-unused.ensures)
