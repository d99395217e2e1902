-- `trace::are_lines` meets its contract. The invariant: `right` says whether the first i entries are right. Assumes nothing.
use Prim.Native.Nat.{◌≤◌, ◌-◌}
use mathlib.Core.Path.{◌≡◌}
use Rattle.octets.specs.Octets.{all}
use Rattle.ledger_replay.specs.Trace.{entry_at, line_at, line_right}
use Rattle.ledger_replay.proofs.trace.are_lines.Given as goal

abbrev pub invariant-loop-i : goal.invariant-loop-i
invariant-loop-i l = (l.i ≤ l.entries) × (l.right ≡ all l.i (λ k. line_right (line_at l.t (entry_at k))))

abbrev pub decreases-loop-i : goal.decreases-loop-i
decreases-loop-i l = l.entries - l.i
