-- `put_name` meets its contract: the name is the part of the slots that it fills. Assumes nothing.
use native.Mathlib.Omega.{arith}
use Prim.Native.Nat.{◌*◌}
use lib.ListN.{get_or}
use Rattle.text.proofs.Laid.{nothing}
use Rattle.season_report_text.specs.Page.{name_size, name_of}
use Rattle.season_report_text.proofs.Slots.{part-there, name-none, name-there}
use Rattle.season_report_text.proofs.sheets.put_name.Goals as goal

pub returns-then-i-ge-MOST_SHEETS : goal.returns-then-i-ge-MOST_SHEETS
returns-then-i-ge-MOST_SHEETS c =
    let g = c.args in
    let none = name-none g.names.now g.files g.i c.requires.1 c.if-i-ge-MOST_SHEETS.true in
    record { puts = rw none (nothing _ _); upper_bound = omega arith }

pub overflow_add-e : goal.overflow_add-e
overflow_add-e c = omega (arith, c.requires.1.short c.args.i)

pub slice_bounds-put_text-end : goal.slice_bounds-put_text-end
slice_bounds-put_text-end c =
    omega (arith, c.requires.1.slots, c.requires.1.short c.args.i)

pub put_text-requires : goal.put_text-requires
put_text-requires c =
    let g = c.args in
    let l = name-there g.names.now g.files g.i c.requires.1 c.if-i-ge-MOST_SHEETS.false in
    rw (part-there g.names.now (name_size * g.i) (get_or g.files.sizes g.i 0)) (omega (arith, l))

pub returns : goal.returns
unfolding name_of
returns c =
    let g = c.args in
    let l = name-there g.names.now g.files g.i c.requires.1 c.if-i-ge-MOST_SHEETS.false in
    let p = rw (part-there g.names.now (name_size * g.i) (get_or g.files.sizes g.i 0)) at c.put_text.ensures in
    record { puts = p; upper_bound = omega (arith, p.end, l) }
