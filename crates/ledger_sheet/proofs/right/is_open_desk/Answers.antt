-- `right::is_open_desk` meets its contract. Assumes nothing.
use Prim.Native.Nat.{ℕ, ◌+◌, ◌<◌}
use mathlib.Core.Bool.{true, and-false, and_assoc}
use mathlib.Core.List.{List}
use mathlib.Core.Path.{◌≡◌}
use native.Mathlib.Omega.{arith}
use lib.ListN.{get_or}
use Rattle.laws.proofs.Bools.{failed, passed}
use Rattle.ledger_sheet.specs.Sheet.{row_count, desk_row_at, is_row}
use Rattle.ledger_sheet.proofs.Clauses.{open-desk, row-parts}
use Rattle.ledger_sheet.proofs.right.is_open_desk.Goals as goal

-- the row that a desk at index a names
named : (s : List ℕ) (a : ℕ) → is_row s (get_or s (a + desk_row_at) 0) ≡ true → get_or s (a + desk_row_at) 0 < row_count
named s a e = (row-parts s (get_or s (a + desk_row_at) 0) e).0

pub returns-then-not-is_row : goal.returns-then-not-is_row
returns-then-not-is_row c =
    rw (← open-desk _ _ c.requires.1, ← c.desk_at-a.ensures, failed c.is_row.ensures c.if-not-is_row.true-raw, and-false)

pub row_at-from-requires : goal.row_at-from-requires
row_at-from-requires c =
    omega (arith, named c.args.s.now c.desk_at-a.result (passed c.is_row.ensures c.if-not-is_row.false-raw))

pub is_same-opened-requires : goal.is_same-opened-requires
is_same-opened-requires c =
    omega (arith, named c.args.s.now c.desk_at-a.result (passed c.is_row.ensures c.if-not-is_row.false-raw))

pub is_same-worked-requires : goal.is_same-worked-requires
is_same-worked-requires c =
    omega (arith, named c.args.s.now c.desk_at-a.result (passed c.is_row.ensures c.if-not-is_row.false-raw))

pub returns : goal.returns
returns c =
    rw (
      ← open-desk _ _ c.requires.1,
      ← c.desk_at-a.ensures,
      passed c.is_row.ensures c.if-not-is_row.false-raw,
      ← c.is_zero-zeros.ensures,
      ← c.row_at-from.ensures,
      ← c.is_same-opened.ensures,
      ← c.is_same-worked.ensures,
      ← and_assoc,
    )
