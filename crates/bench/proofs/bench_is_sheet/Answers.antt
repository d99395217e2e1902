-- `bench::bench_is_sheet` meets its contract. Assumes nothing.
use mathlib.Core.Path.{sym, ◌∙◌}
use Rattle.bench.proofs.bench_is_sheet.Goals as goal

pub returns-then-is_sheet : goal.returns-then-is_sheet
returns-then-is_sheet c = rw (sym c.is_sheet.ensures ∙ c.if-is_sheet.true)

pub returns : goal.returns
returns c = rw (sym c.is_sheet.ensures ∙ c.if-is_sheet.false)
