-- `ledger_receive::receive_all` meets its contract. The loop's invariant is `Round` of `Rounds.antt`; the measure is the number of entries that
-- are free. Assumes nothing.
use Prim.Native.Nat.{◌-◌}
use lib.ListN.{length}
use Rattle.ledger_layout.specs.Layout.{book_of}
use Rattle.ledger_receive.proofs.Rounds.{Round}
use Rattle.ledger_receive.proofs.receive_all.Given as goal

abbrev pub invariant-loop-turn : goal.invariant-loop-turn
invariant-loop-turn l = Round l.stream l.initial.list (book_of l.initial.s) l.desk l.at l.i l.ticked l.s l.list

abbrev pub decreases-loop-turn : goal.decreases-loop-turn
decreases-loop-turn l = length l.initial.list - l.i
