-- `call_script_text::samples::unpack` is safe. Assumes nothing.
use Rattle.std.proofs.Common.{ℕ, sym}
use Rattle.std.proofs.lemmas.List.{length-replicate}
use Rattle.call_script_text.proofs.samples.unpack.Goals as goal

-- By the law and not by `search`, which counts the elements of the array.
pub slice_bounds-unpack_into-end : goal.slice_bounds-unpack_into-end
slice_bounds-unpack_into-end c = sym (length-replicate {A = ℕ} _ 0)
