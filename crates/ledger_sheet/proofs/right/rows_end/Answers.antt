-- `right::rows_end` meets its contract. The invariant: the array has the keys of the used rows among the first i, and `right` says whether these rows
-- are right. Assumes nothing.
use mathlib.Core.Bool.{◌&&◌}
use mathlib.Core.Path.{refl, sym, ◌∙◌}
use lib.Dec.{eqb}
use Rattle.ledger_sheet.specs.inner.Judging.{Zeros}
use native.Mathlib.Omega.{arith}
use Rattle.ledger_sheet.proofs.RowsRead.{no-row-read, marked-front, front-other, used-read, free-read, rows-found, rows-ended}
use Rattle.ledger_sheet.proofs.right.rows_end.Goals as goal
use Rattle.ledger_sheet.proofs.right.rows_end.Goals.{Left-loop-i, then-is_used, else-is_used, else-loop-i-test, then-loop-i-test+then-found-used}

pub loop-i-init : goal.loop-i-init
loop-i-init c = (omega arith, no-row-read _ _ _ refl refl, refl)

pub is_new-right-requires : goal.is_new-right-requires
is_new-right-requires c =
    let read = c.loop-i.invariant.1 in
    marked-front _ _ _ (omega (arith, read.few, read.long)) read.marked

pub loop-i-preserved : goal.loop-i-preserved
loop-i-preserved c =
    let place = c.row_at-row.ensures in
    let flag = c.is_used.ensures in
    let read = c.loop-i.invariant.1 in
    elim c.if-is_used.branch [
      | then-is_used w ↦ let key = rw place at w.key_at-key.ensures in
          let first = rw place at w.first_at.ensures in (
            omega arith,
            rw (w.keys-is, w.marks-is, w.found-is, w.right-is)
                (used-read _ _ _ _ _ _ read _ _ _ _ (omega arith) (sym flag ∙ w.if-is_used.true)
                key first w.is_stream-right.ensures (w.is_new-right.ensures ∙ front-other _ _ _ (omega (arith, read.few, read.long)))),
            omega arith,
          )
      | else-is_used w ↦ let zero = rw place at w.is_zero-right.ensures in
          (omega arith, rw (w.keys-is, w.marks-is, w.found-is, w.right-is) (free-read _ _ _ _ _ _ read _ (sym flag ∙ w.if-is_used.false) zero), omega arith)
    ]

-- What was found, where the loop ended.
ended : (c : Left-loop-i) → Zeros c.args.s.now (c.loop-i.right && eqb c.loop-i.found c.rows_used-used.result) c.loop-i.zeros
ended c =
    let counted = c.rows_used-used.ensures in
    let read = c.loop-i.invariant.1 in
    rw (c.loop-i.invariant.2, counted)
    (elim c.loop-i-test.branch [
      | else-loop-i-test w ↦ rows-ended _ c.loop-i.i c.loop-i.found c.loop-i.right read.counted read.right_is (omega arith)
      | then-loop-i-test+then-found-used w ↦
          rows-found _ c.loop-i.i c.loop-i.found c.loop-i.right read.counted read.right_is c.loop-i.invariant.0 (w.if-found-used.true ∙ counted)
    ])

pub returns-then-right-found : goal.returns-then-right-found
returns-then-right-found c = rw c.if-right-found.true at (ended (goal.at.returns-then-right-found c).Left-loop-i)

pub returns : goal.returns
returns c = sym (rw c.if-right-found.false at (ended (goal.at.returns c).Left-loop-i).says)
