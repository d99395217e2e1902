-- `trace::are_lines` meets its contract. The invariant: `right` says whether the first i entries are right. Assumes nothing.
use native.Mathlib.Omega.{arith}
use mathlib.Core.Path.{◌≡◌, sym}
use Rattle.octets.proofs.Laws.{all_none, all-next}
use Rattle.ledger_replay.specs.Trace.{lines_right}
use Rattle.ledger_replay.proofs.trace.are_lines.Goals as goal

pub loop-i-init : goal.loop-i-init
loop-i-init c = (omega arith, sym (all_none _))

pub loop-i-preserved : goal.loop-i-preserved
loop-i-preserved c = (omega arith, rw (all-next, ← c.loop-i.invariant.1, ← c.is_line-right.ensures))

pub returns : goal.returns
unfolding lines_right
returns c =
    let e : c.entry_count-entries.result ≡ c.loop-i.i = omega arith in
    rw (← c.entry_count-entries.ensures, e, c.loop-i.invariant.1)
