-- `day_count` meets its contract. Assumes nothing.
use native.Mathlib.Omega.{arith}
use mathlib.Core.Path.{sym, ◌∙◌}
use borrow.Author.Tests.{not-true, not-false}
use Rattle.dates.specs.Calendar.{day_count}
use Rattle.dates.proofs.Laws.{IsDate, date-is, new-year-top}
use Rattle.dates.proofs.day_count.Goals as goal
use Rattle.dates.proofs.day_count.Goals.{Else-not-is_date}

pub returns-then-not-is_date : goal.returns-then-not-is_date
returns-then-not-is_date c = simp (← c.is_date.ensures, not-true c.is_date.result c.if-not-is_date.true-raw)

-- Past the test the year and the day are a date.
dated : (c : Else-not-is_date) → IsDate c.args.year c.args.day
dated c = date-is _ _ (sym c.is_date.ensures ∙ not-false c.is_date.result c.if-not-is_date.false-raw)

pub new_year-requires : goal.new_year-requires
new_year-requires c = omega (arith, (dated c).first, (dated c).last)

pub overflow_add-count : goal.overflow_add-count
overflow_add-count c =
    let d = dated (goal.at.overflow_add-count c).Else-not-is_date in
    omega (arith, c.new_year.ensures, new-year-top _ d.first d.last)

pub overflow_sub-count : goal.overflow_sub-count
overflow_sub-count c = omega (arith, (dated (goal.at.overflow_sub-count c).Else-not-is_date).counted)

pub returns : goal.returns
unfolding day_count
returns c =
    simp (← c.is_date.ensures, not-false c.is_date.result c.if-not-is_date.false-raw, c.new_year.ensures)
