-- `sfdu::reader::judge_secondary` meets its contract. Assumes nothing.
use native.Mathlib.Omega.{arith}
use Rattle.sfdu.proofs.Placed.{placed}
use Rattle.sfdu.proofs.reader.judge_secondary.Goals as goal

pub judge_label-requires : goal.judge_label-requires
judge_label-requires c = let k = placed c.args.kind in omega arith

pub returns : goal.returns
returns c = rw (c.secondary_type.ensures, c.secondary_length.ensures) at c.judge_label.ensures
