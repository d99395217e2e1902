-- `date_of` meets its contract: the date is that of the year found. Assumes nothing.
use Prim.Native.Nat.{◌+◌, ◌-◌, ◌≤◌}
use native.Mathlib.Omega.{arith}
use mathlib.Core.Path.{sym}
use Rattle.dates.proofs.Laws.{year-length, day-within, date-within, refused}
use Rattle.dates.proofs.date_of.Goals as goal
use Rattle.dates.proofs.date_of.Goals.{After-year_of-found}

pub returns-then-count-gt-LAST_COUNT : goal.returns-then-count-gt-LAST_COUNT
returns-then-count-gt-LAST_COUNT c = sym (refused _ c.if-count-gt-LAST_COUNT.true)

-- The day found is one that its year has.
short : (c : After-year_of-found) → c.args.count - c.year_of-found.result.start + 1 ≤ 366
short c =
    rw c.year_of-found.ensures.1 (omega (arith, (day-within _ _ c.year_of-found.ensures.0).within, (year-length c.year_of-found.result.year).1))

pub overflow_cast-day : goal.overflow_cast-day
overflow_cast-day c = omega (arith, short (goal.at.overflow_cast-day c).After-year_of-found)

pub overflow_add-day : goal.overflow_add-day
overflow_add-day c = omega (arith, short (goal.at.overflow_add-day c).After-year_of-found)

pub returns : goal.returns
returns c = rw c.year_of-found.ensures.1 (sym (date-within _ _ c.year_of-found.ensures.0))
