-- `octets::numbers::read_bytes` meets its contract. Assumes nothing.
use Prim.Native.Nat.{◌+◌, ◌^◌, ◌<◌}
use lib.ListN.{get_or}
use native.Mathlib.Omega.{arith}
use mathlib.Core.Path.{◌≡◌, refl, sym, ◌∙◌}
use Rattle.octets.proofs.Laws.{number-room, number-none, number_more}
use Rattle.octets.proofs.Parts.{length-lent, lent_at}
use Rattle.octets.proofs.numbers.read_bytes.Goals as goal
use Rattle.octets.proofs.numbers.read_bytes.Goals.{In-loop-b, After-from}

pub loop-b-init : goal.loop-b-init
loop-b-init c = sym (number-none _ _)

-- Fewer than eight bytes are read, so their number leaves room for one more.
room : (c : In-loop-b) → c.loop-b.v < 256 ^ 7
room c =
    let g = c.args in
    let inside : c.loop-b.b-index < g.n = omega (arith, length-lent g.s.now g.a g.n (omega arith), c.loop-b-test.true) in
    omega (arith, number-room g.s.now g.a c.loop-b.b-index c.type_inv.s (omega arith), c.loop-b.invariant)

pub overflow_mul-v : goal.overflow_mul-v
overflow_mul-v c = omega (arith, room c)

-- What the turn reads.
read : (c : After-from) → c.from.result ≡ get_or c.args.s.now (c.args.a + c.loop-b.b-index) 0
read c = c.from.ensures ∙ lent_at c.args.s.now c.args.a c.args.n c.loop-b.b-index (omega arith) c.loop-b-test.true

pub overflow_add-v : goal.overflow_add-v
overflow_add-v c =
    omega (arith, room (goal.at.overflow_add-v c).In-loop-b, read c, c.type_inv.s (c.args.a + c.loop-b.b-index))

pub loop-b-preserved : goal.loop-b-preserved
loop-b-preserved c = rw (number_more, read c, c.loop-b.invariant) refl

pub returns : goal.returns
returns c =
    let g = c.args in
    let whole : c.loop-b.b-index ≡ g.n = omega (arith, length-lent g.s.now g.a g.n (omega arith), c.loop-b-test.false) in
    rw (← whole) c.loop-b.invariant
