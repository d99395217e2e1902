-- `play` meets its contract. The invariant: playing the entries from i on over the current sheet gives what playing all of them over the first sheet
-- gives; and the sheet is the layout of a book. Assumes nothing.
use Prim.Native.Nat.{◌-◌, ◌≤◌}
use mathlib.Core.Path.{◌≡◌}
use lib.ListN.{length}
use Rattle.ledger_replay.specs.Trace.{entries_from, entries_of}
use Rattle.ledger_replay.specs.Replay.{replay_from}
use Rattle.ledger_replay.specs.inner.Making.{IsLaid}
use Rattle.ledger_replay.proofs.play.Given as goal

abbrev pub invariant-loop-i : goal.invariant-loop-i
invariant-loop-i l =
    (l.i ≤ l.entries) × (length l.s ≡ length l.initial.s) × IsLaid l.s
    × (replay_from l.i (entries_from l.t l.i (l.entries - l.i)) l.s ≡ replay_from 0 (entries_of l.t) l.initial.s)

abbrev pub decreases-loop-i : goal.decreases-loop-i
decreases-loop-i l = l.entries - l.i
