-- `bench::bench_count` meets its contract. Assumes nothing.
use mathlib.Core.Path.{ap, ◌∙◌}
use borrow.Author.Tests.{eq-eqb, ne_eqb, lt-ltb, le-ltb}
use Rattle.bench.specs.inner.Digest.{counts}
use Rattle.bench.proofs.bench_count.Goals as goal

pub returns-then-s-ne-SHEET : goal.returns-then-s-ne-SHEET
returns-then-s-ne-SHEET c = rw (ne_eqb _ _ c.if-s-ne-SHEET.true)

pub returns-then-row-ge-ROWS : goal.returns-then-row-ge-ROWS
returns-then-row-ge-ROWS c = rw (eq-eqb _ _ c.if-s-ne-SHEET.false, le-ltb _ _ c.if-row-ge-ROWS.true)

pub returns : goal.returns
returns c =
    rw (eq-eqb _ _ c.if-s-ne-SHEET.false, lt-ltb _ _ c.if-row-ge-ROWS.false)
    (c.reported.ensures ∙ ap counts c.row_report.ensures)
