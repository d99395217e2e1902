-- `count_season` meets its contract. The invariant: the first sheets are counted. Assumes nothing.
use mathlib.Core.Path.{◌≡◌}
use native.Mathlib.Omega.{arith}
use Rattle.ledger_season.proofs.Sheets.{length-sheet, season-none, season-more, season-all}
use Rattle.ledger_season.proofs.count_season.Goals as goal

pub loop-k-init : goal.loop-k-init
loop-k-init c = (omega arith, season-none _ _)

pub count_sheet-counted-requires : goal.count_sheet-counted-requires
count_sheet-counted-requires c =
    let g = c.args in
    rw c.sheet_of.ensures (length-sheet g.s.now g.n c.loop-k.k (omega arith) c.requires.1)

pub overflow_add-ticked : goal.overflow_add-ticked
overflow_add-ticked c =
    omega (arith, c.loop-k.invariant.1.ticked-few, c.count_sheet-counted.ensures.ticked-few)

pub overflow_add-missing : goal.overflow_add-missing
overflow_add-missing c =
    omega (arith, c.loop-k.invariant.1.missing-few, c.count_sheet-counted.ensures.missing-few)

pub loop-k-preserved : goal.loop-k-preserved
loop-k-preserved c =
    let g = c.args in
    let counts = rw c.sheet_of.ensures at c.count_sheet-counted.ensures in
    let more = season-more g.s.now g.n _ _ _ _ c.loop-k.k (omega arith) c.requires.0 c.loop-k.invariant.1 in
    (omega arith, more _ counts _ c.with_rate.ensures _ c.first_of-gap.ensures)

pub returns : goal.returns
returns c =
    let g = c.args in
    let end : c.loop-k.k ≡ g.n = omega arith in
    let at = rw end at c.loop-k.invariant.1 in
    rw (at.long, season-all g.s.now g.n _ _ _ _ at _ c.with_rate-total.ensures)
