-- `sfdu_samples::packs::swapped` meets its contract. Assumes nothing.
use Rattle.std.proofs.Common.{arith}
use Rattle.sfdu_samples.proofs.Stored.{swapped-bytes}
use Rattle.sfdu_samples.proofs.packs.swapped.Goals as goal

pub returns : goal.returns
returns c = swapped-bytes c.args.w (omega arith)
