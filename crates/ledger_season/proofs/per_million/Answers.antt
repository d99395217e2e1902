-- `per_million` meets its contract. Assumes nothing.
use Prim.Native.Nat.{◌+◌, ◌*◌, ◌/◌, ◌<◌}
use native.Mathlib.Nat.{div-lt_iff_lt-mul}
use native.Mathlib.Omega.{arith}
use borrow.Author.Tests.{ne_eqb}
use Rattle.ledger_season.specs.Report.{per_million}
use Rattle.ledger_season.proofs.per_million.Goals as goal

pub returns-then-both-eq0 : goal.returns-then-both-eq0
unfolding per_million
returns-then-both-eq0 c = rw c.if-both-eq0.true

pub overflow_cast-result-2 : goal.overflow_cast-result-2
overflow_cast-result-2 c =
    let g = c.args in
    let some-counted : 0 < g.ticked + g.missing = omega (arith, c.if-both-eq0.false) in
    let few : g.missing * 1000000 / (g.ticked + g.missing) < 1000001 = (div-lt_iff_lt-mul some-counted).1 (omega arith) in
    omega arith

pub returns : goal.returns
unfolding per_million
returns c = rw (ne_eqb _ _ c.if-both-eq0.false)
