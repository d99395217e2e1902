-- `ledger_counts::lowest_unticked` meets its contract. The invariant: the positions of the first k blocks are ticked. Assumes nothing.
use Prim.Native.Nat.{◌+◌, ◌*◌}
use mathlib.Core.Path.{sym, ap, ◌∙◌}
use Rattle.std.proofs.Common.{Some, not}
use Rattle.ledger_layout.specs.Ticks.{ticked_at}
use native.Mathlib.Omega.{arith}
use Rattle.ledger_layout.proofs.Scans.{lowest-here, lowest-none, below_lowest, below_none}
use Rattle.ledger_counts.specs.inner.Blocks.{block_bits}
use Rattle.ledger_counts.proofs.Starts.{ticked-join}
use Rattle.ledger_counts.proofs.lowest_unticked.Goals as goal

pub loop-k-init : goal.loop-k-init
loop-k-init c = (omega arith, λ j h l. absurd (omega arith))

pub returns-then-at-end : goal.returns-then-at-end
returns-then-at-end c =
    let g = c.args in
    let found = c.in-Some.ensures in
    let below = ticked-join g.s.now g.a 0 (block_bits * c.loop-k.k) c.in-Some.at c.loop-k.invariant.1 found.ticked in
    let here = ap not found.unticked in
    let is = lowest-here g.end c.in-Some.at (λ i. not (ticked_at g.s.now g.a i)) c.if-at-end.true (λ j l. ap not (below j (omega arith) l)) here in
    sym (below_lowest _ _ (omega (arith, is)) ∙ ap Some is)

pub returns-in-Some : goal.returns-in-Some
returns-in-Some c =
    let g = c.args in
    let found = c.in-Some.ensures in
    let below = ticked-join g.s.now g.a 0 (block_bits * c.loop-k.k) c.in-Some.at c.loop-k.invariant.1 found.ticked in
    let none = lowest-none g.end (λ i. not (ticked_at g.s.now g.a i)) (λ j l. ap not (below j (omega arith) (omega arith))) in
    sym (below_none _ _ (omega (arith, none)))

pub loop-k-preserved : goal.loop-k-preserved
loop-k-preserved c =
    let g = c.args in
    let k = c.loop-k.k in
    (omega arith, ticked-join g.s.now g.a 0 (block_bits * k) (block_bits * (k + 1)) c.loop-k.invariant.1 c.in_default.ensures)

pub returns : goal.returns
returns c =
    let g = c.args in
    let none = lowest-none g.end (λ i. not (ticked_at g.s.now g.a i)) (λ j l. ap not (c.loop-k.invariant.1 j (omega arith) (omega arith))) in
    sym (below_none _ _ (omega (arith, none)))
