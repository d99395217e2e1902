-- `rsr_samples::stream` meets its contract: the list has room for the numbers of every record. Assumes nothing.
use Rattle.std.proofs.Common.{ℤ, pos, sym, rules}
use lib.ListN.{length-replicate}
use Rattle.rsr_samples.specs.declared.TheConstants.{NUMBERS}
use Rattle.rsr_samples.proofs.stream.Goals as goal

pub slice_bounds-write_stream-end-2 : goal.slice_bounds-write_stream-end-2
slice_bounds-write_stream-end-2 g c = sym (length-replicate {A = ℤ} _ (pos 0))

pub write_stream-requires : goal.write_stream-requires
write_stream-requires g c = (search rules, length-replicate {A = ℤ} NUMBERS (pos 0), search rules)
