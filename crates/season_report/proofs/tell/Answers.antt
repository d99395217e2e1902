-- `season_report::tell` is safe: the page ends in its room. Assumes nothing.
use native.Mathlib.Omega.{arith}
use Rattle.season_report.proofs.tell.Goals as goal

pub slice_bounds-page-end : goal.slice_bounds-page-end
slice_bounds-page-end c =
    omega (arith, c.in-Ok.ensures.room)
