-- `sfdu_samples::width::Width::codes` meets its contract. Assumes nothing.
use Rattle.std.proofs.Common.{mod-eq_of_lt, one-mul, arith}
use Rattle.sfdu_samples.proofs.Values.{codes-most}
use Rattle.sfdu_samples.proofs.width.Width.codes.Goals as goal

pub returns : goal.returns
returns c = rw one-mul (mod-eq_of_lt (omega (arith, codes-most c.args.self.bits c.args.self.fills.most)))
