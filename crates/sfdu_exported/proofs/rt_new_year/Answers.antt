-- `rt_new_year` meets its contract: the entry is the table's. Assumes nothing.
use Prim.Native.Nat.{◌+◌, ◌-◌, ◌<◌, ◌≤◌}
use native.Mathlib.Omega.{arith}
use mathlib.Core.Path.{◌≡◌}
use borrow.Author.Tests.{le-leb, lt-leb}
use Rattle.dates.specs.Calendar.{first_year, last_year}
use Rattle.sfdu_exported.specs.Tables.{new_year_at}
use Rattle.sfdu_exported.proofs.rt_new_year.Goals as goal

pub returns-then-i-ge-YEARS : goal.returns-then-i-ge-YEARS
unfolding new_year_at
returns-then-i-ge-YEARS c =
    let i = c.args.i in
    let past : last_year < first_year + i = omega arith in
    rw (lt-leb (first_year + i) last_year past)

pub returns : goal.returns
unfolding new_year_at
returns c =
    let i = c.args.i in
    let within : first_year + i ≤ last_year = omega arith in
    let at : first_year + i - first_year ≡ i = omega arith in
    rw (le-leb (first_year + i) last_year within) (rw at at (c.new_years-table.ensures.entry (first_year + i) (omega arith) within))
