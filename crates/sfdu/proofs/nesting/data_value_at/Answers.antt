-- `sfdu::nesting::data_value_at` meets its contract. Assumes nothing.
use native.Mathlib.Omega.{arith}
use Rattle.sfdu.proofs.Placed.{placed}
use Rattle.sfdu.proofs.nesting.data_value_at.Goals as goal

pub overflow_add-result : goal.overflow_add-result
overflow_add-result c = let k = placed c.args.kind in omega arith

pub returns : goal.returns
returns c = let k = placed c.args.kind in omega arith
