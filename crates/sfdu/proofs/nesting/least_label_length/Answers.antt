-- `sfdu::nesting::least_label_length` meets its contract. Assumes nothing.
use native.Mathlib.Omega.{arith}
use Rattle.sfdu.proofs.Placed.{placed}
use Rattle.sfdu.proofs.nesting.least_label_length.Goals as goal

pub overflow_sub-result : goal.overflow_sub-result
overflow_sub-result c = let k = placed c.args.kind in omega arith

pub returns : goal.returns
returns c = let k = placed c.args.kind in omega arith
