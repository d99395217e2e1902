-- `new_year` meets its contract: the number computed is the days of the years before. Assumes nothing.
use Prim.Native.Nat.{◌-◌, ◌/◌}
use native.Mathlib.Omega.{arith}
use Rattle.dates.proofs.Computed.{computed, taken-off}
use Rattle.dates.proofs.new_year.Goals as goal

pub returns : goal.returns
returns c =
    let year = c.args.year in
    taken-off _ _ ((year - 1) / 4) ((year - 1) / 400) ((year - 1) / 100) (computed year c.requires.0) (omega arith) (omega arith)
