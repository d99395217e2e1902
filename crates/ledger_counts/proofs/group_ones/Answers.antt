-- `ledger_counts::group_ones` meets its contract. Assumes nothing.
use native.Mathlib.Omega.{arith}
use mathlib.Core.Path.{sym}
use Rattle.ledger_counts.specs.inner.Blocks.{block_bits}
use Rattle.ledger_counts.proofs.BlockCounts.{group-few, group-full}
use Rattle.ledger_counts.proofs.group_ones.Goals as goal

pub returns-then-first-second : goal.returns-then-first-second
returns-then-first-second c =
    let g = c.args in
    sym (group-full block_bits g.first g.second g.third g.fourth (omega arith, omega arith, omega arith, omega arith) c.if-first-second.true)

pub overflow_add-result : goal.overflow_add-result
overflow_add-result c =
    let g = c.args in
    omega (arith, group-few block_bits g.first g.second g.third g.fourth (omega arith, omega arith, omega arith, omega arith))

pub overflow_add-result-2 : goal.overflow_add-result-2
overflow_add-result-2 c =
    let g = c.args in
    omega (arith, group-few block_bits g.first g.second g.third g.fourth (omega arith, omega arith, omega arith, omega arith))

pub overflow_add-result-3 : goal.overflow_add-result-3
overflow_add-result-3 c =
    let g = c.args in
    omega (arith, group-few block_bits g.first g.second g.third g.fourth (omega arith, omega arith, omega arith, omega arith))
