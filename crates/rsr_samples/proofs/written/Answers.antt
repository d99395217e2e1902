-- `rsr_samples::written` meets its contract. Assumes nothing.
use Rattle.std.proofs.Common.{sym, arith, length-take-le}
use Rattle.rsr_samples.proofs.written.Goals as goal

pub slice_bounds-write_parts-end : goal.slice_bounds-write_parts-end
slice_bounds-write_parts-end c = sym (length-take-le _ _ (omega arith))
