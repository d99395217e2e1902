-- `sfdu_samples::width::Width::per_sample_word` meets its contract. Assumes nothing.
use Rattle.std.proofs.Common.{div-le_self, arith}
use Rattle.sfdu_samples.proofs.width.Width.per_sample_word.Goals as goal

pub overflow_mul-result : goal.overflow_mul-result
overflow_mul-result c = omega (arith, c.per_half.ensures, div-le_self 16 c.args.self.bits)
