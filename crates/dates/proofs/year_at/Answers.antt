-- `year_at` meets its contract: the entry is the table's. Assumes nothing.
use Prim.Native.Nat.{◌+◌, ◌-◌}
use native.Mathlib.Omega.{arith}
use mathlib.Core.Path.{◌≡◌, refl}
use Rattle.dates.specs.Calendar.{first_year}
use Rattle.dates.proofs.year_at.Goals as goal

pub returns : goal.returns
returns c =
    let i = c.args.i in
    let at : first_year + i - first_year ≡ i = omega arith in
    (refl, rw at at (c.requires.0.entry (first_year + i) (omega arith) c.requires.1))
