-- `octets::is_long_zero` meets its contract. Assumes nothing.
use Prim.Native.Nat.{◌+◌, ◌-◌, ◌*◌, ◌/◌}
use native.Mathlib.Omega.{arith}
use Rattle.octets.proofs.Laws.{zero-covers}
use Rattle.octets.proofs.is_long_zero.Goals as goal

pub returns : goal.returns
returns c =
    let g = c.args in
    let start = g.a / 16 * 16 + 16 in
    let parts = 4 * ((g.n - 16) / 128 * 32) in
    let covers =
    zero-covers g.s.now g.a g.n 16 start parts 144
    (omega arith) (omega arith) (omega arith) (omega arith) (omega arith) (omega arith) in
    rw (c.is_zero-first.ensures, c.are_zero-parts.ensures, c.is_zero-last.ensures) covers
