-- `sfdu::reader::judge_aggregation` meets its contract. Assumes nothing.
use native.Mathlib.Omega.{arith}
use Rattle.sfdu.proofs.Placed.{placed}
use Rattle.sfdu.proofs.reader.judge_aggregation.Goals as goal

pub judge_label-requires : goal.judge_label-requires
judge_label-requires c = let k = placed c.args.kind in omega arith

pub returns : goal.returns
returns c = rw c.aggregation_length.ensures at c.judge_label.ensures
