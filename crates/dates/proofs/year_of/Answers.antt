-- `year_of` meets its contract: the mean's year is the one that the count falls in, or the one after it. Assumes nothing.
use Prim.Native.Nat.{ℕ, ◌+◌, ◌-◌, ◌*◌, ◌/◌, ◌<◌, ◌≤◌}
use native.Mathlib.Omega.{arith}
use mathlib.Core.Path.{◌≡◌, sym, ◌∙◌}
use mathlib.Core.List.{List}
use mathlib.Core.Bool.{false}
use lib.Dec.{ltb}
use lib.ListN.{get_or, length}
use borrow.Author.Tests.{ltb-false}
use Rattle.dates.specs.Calendar.{first_year, last_count, new_year}
use Rattle.dates.specs.Table.{NewYears}
use Rattle.dates.proofs.Computed.{quotient}
use Rattle.dates.proofs.Mean.{mean-year, past-table, not_first, mean-before}
use Rattle.dates.proofs.year_of.Goals as goal
use Rattle.dates.proofs.year_of.Goals.{in_default-via-in-Some+else-start-count, in_default-via-in_default}

-- The table's entry by its place.
entry : (table : List ℕ) → NewYears table → (i start : ℕ) → (i < length table) × ((d : ℕ) → start ≡ get_or table i d) → start ≡ new_year (first_year + i)
entry table t i start found =
    let within : i < 1101 = omega (arith, found.0, t.years) in
    let at : first_year + i - first_year ≡ i = omega arith in
    found.1 0 ∙ (rw at at (t.entry (first_year + i) (omega arith) (omega arith)))

-- The new year of a place past the table is past every count.
past : (table : List ℕ) → NewYears table → (count i : ℕ) → count ≤ last_count → false ≡ ltb i (length table) → count < new_year (first_year + i)
past table t count i h none = past-table count i h (omega (arith, ltb-false i (length table) (sym none), t.years))

pub overflow_sub-i : goal.overflow_sub-i
overflow_sub-i c =
    not_first _ _
    (elim c.in_default.branch [
      | in_default-via-in-Some+else-start-count w ↦ rw (entry _ c.new_years-table.ensures _ _ w.in-Some.ensures.lookup.3) at w.if-start-count.false
      | in_default-via-in_default w ↦ past _ c.new_years-table.ensures _ _ c.requires w.in_default.ensures.lookup.0
    ])

pub returns-in-Some : goal.returns-in-Some
returns-in-Some c =
    let y = c.year_at.ensures in
    let begun = rw (entry _ c.new_years-table.ensures _ _ c.in-Some.ensures.lookup.3) at c.if-start-count.true in
    (rw y.0 (mean-year _ _ (quotient 146097 _ (omega arith)) c.requires begun), y.1)

pub returns-in_default : goal.returns-in_default
returns-in_default c =
    let y = c.year_at-in_default.ensures in
    let late : c.args.count < new_year (first_year + (c.args.count * 400 + 496) / 146097) =
    elim c.in_default.branch [
      | in_default-via-in-Some+else-start-count w ↦ rw (entry _ c.new_years-table.ensures _ _ w.in-Some.ensures.lookup.3) at w.if-start-count.false
      | in_default-via-in_default w ↦ past _ c.new_years-table.ensures _ _ c.requires w.in_default.ensures.lookup.0
    ] in
    (rw y.0 (mean-before _ _ (quotient 146097 _ (omega arith)) c.requires late), y.1)
