-- `ledger_missing::list_missing` meets its contract. Assumes nothing.
use Prim.Native.Nat.{ℕ, ◌-◌, ◌≤◌, ◌<◌}
use native.Mathlib.Omega.{arith}
use mathlib.Core.List.{List, [], ◌∷◌}
use mathlib.Core.Path.{◌≡◌, ap, ◌∙◌}
use borrow.Author.Tests.{lt-ltb, le-ltb}
use lib.ListN.{length}
use lib.Seq.{sets}
use Rattle.ledger_sheet.specs.Sheet.{row_count}
use Rattle.ledger_layout.proofs.Readers.{row-there}
use Rattle.ledger_counts.proofs.Reports.{end-within, row_count_lem}
use Rattle.ledger_missing.specs.inner.Gaps.{gaps_in, listed}
use Rattle.ledger_missing.proofs.Gaps.{missing_at, missing-is, gaps-missing, missing-many, sets-fill}
use Rattle.ledger_missing.proofs.list_missing.Goals as goal
use Rattle.ledger_missing.proofs.list_missing.Goals.{Start, After-ticked_count, Else-list-count}

-- The row is one of the 32.
there : (c : Start) → c.args.row < row_count
there c = row-there c.args.s.now c.args.row c.requires.1

pub row_at-a-requires : goal.row_at-a-requires
row_at-a-requires c = omega (arith, there (goal.at.row_at-a-requires c).Start)

pub ticks_end-end-requires : goal.ticks_end-end-requires
ticks_end-end-requires c = omega (arith, there (goal.at.ticks_end-end-requires c).Start)

pub ticked_count-requires : goal.ticked_count-requires
ticked_count-requires c = omega (arith, there (goal.at.ticked_count-requires c).Start)

pub overflow_sub-count : goal.overflow_sub-count
overflow_sub-count c =
    let s = c.args.s.now in
    let a = c.row_at-a.result in
    omega (arith, row_count_lem s a, c.ticks_end-end.ensures, c.ticked_count.ensures)

-- The count is the missing list's length.
many : (c : After-ticked_count)
    → let s = c.args.s.now in
    length (missing_at s c.row_at-a.result) ≡ c.ticks_end-end.result - c.ticked_count.result
many c =
    let s = c.args.s.now in
    let a = c.row_at-a.result in
    omega (arith, missing-many s a, c.ticks_end-end.ensures, c.ticked_count.ensures)

-- The numbers that are stored are the missing list.
stored : (c : After-ticked_count)
    → let s = c.args.s.now in
    let a = c.row_at-a.result in
    gaps_in s a 0 c.ticks_end-end.result ≡ missing_at s a
stored c =
    let s = c.args.s.now in
    let a = c.row_at-a.result in
    rw c.ticks_end-end.ensures (gaps-missing s a)

pub returns-then-list-count : goal.returns-then-list-count
unfolding listed
returns-then-list-count c =
    let g = c.args in
    let short : length g.list.now < length (missing_at g.s.now c.row_at-a.result) =
    omega (arith, many (goal.at.returns-then-list-count c).After-ticked_count, c.if-list-count.true) in
    rw (missing-is g.s.now g.row c.requires.1, ← c.row_at-a.ensures, lt-ltb _ _ short)

-- The lent list is long enough.
fits : (c : Else-list-count)
    →
    let g = c.args in
    length (missing_at g.s.now c.row_at-a.result) ≤ length g.list.now
fits c = omega (arith, many (goal.at.Else-list-count c).After-ticked_count, c.if-list-count.false)

pub put_gaps-requires : goal.put_gaps-requires
put_gaps-requires c =
    let g = c.args in
    let a = c.row_at-a.result in (
      omega (arith, there ((goal.at.put_gaps-requires c).Start)),
      rw c.ticks_end-end.ensures (end-within g.s.now a),
      rw (stored (goal.at.put_gaps-requires c).After-ticked_count) (fits (goal.at.put_gaps-requires c).Else-list-count),
    )

pub overflow_cast-result : goal.overflow_cast-result
overflow_cast-result c =
    let s = c.args.s.now in
    let a = c.row_at-a.result in
    omega (arith, end-within s a, c.ticks_end-end.ensures)

pub returns : goal.returns
unfolding listed
returns c =
    let g = c.args in
    let a = c.row_at-a.result in
    let xs = missing_at g.s.now a in
    let old = g.list.now in
    let filled = c.put_gaps.ensures ∙ ap (λ (l : List ℕ). sets old 0 l) (stored (goal.at.returns c).After-ticked_count)
    ∙ sets-fill xs old (fits (goal.at.returns c).Else-list-count) in
    let own = missing-is g.s.now g.row c.requires.1 in
    rw (own, ← c.row_at-a.ensures, le-ltb (length old) (length xs) (fits (goal.at.returns c).Else-list-count), ← many (goal.at.returns c).After-ticked_count)
    (ap (λ (l : List ℕ). (0 ∷ length xs ∷ [], l)) filled)
