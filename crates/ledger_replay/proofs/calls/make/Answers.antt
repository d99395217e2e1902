-- `calls::make` meets its contract. Assumes nothing.
use mathlib.Core.Path.{sym, ap}
use Rattle.ledger_replay.specs.Trace.{call_in}
use Rattle.ledger_replay.specs.Replay.{call_answer}
use Rattle.ledger_replay.specs.inner.Making.{made}
use Rattle.ledger_replay.proofs.calls.make.Goals as goal

pub enrol-requires : goal.enrol-requires
enrol-requires c = sym c.requires

pub returns-in-Enrol : goal.returns-in-Enrol
unfolding call_in made
returns-in-Enrol c = rw c.in-Enrol.is (ap (λ o. (call_answer o.0, o.1)) c.enrol.ensures)

pub open-requires : goal.open-requires
open-requires c = sym c.requires

pub returns-in-Open : goal.returns-in-Open
unfolding call_in made
returns-in-Open c = rw (c.in-Open.is, c.no_row.ensures) (ap (λ o. (call_answer o.0, o.1)) c.«open».ensures)

pub mark-requires : goal.mark-requires
mark-requires c = sym c.requires

pub returns-in-Tick : goal.returns-in-Tick
unfolding call_in made
returns-in-Tick c = rw (c.in-Tick.is, c.no_row-in-Tick.ensures) (ap (λ o. (call_answer o.0, o.1)) c.mark.ensures)

pub mark-requires-in-Untick : goal.mark-requires-in-Untick
mark-requires-in-Untick c = sym c.requires

pub returns-in-Untick : goal.returns-in-Untick
unfolding call_in made
returns-in-Untick c = rw (c.in-Untick.is, c.no_row-in-Untick.ensures) (ap (λ o. (call_answer o.0, o.1)) c.mark-in-Untick.ensures)

pub save-requires : goal.save-requires
save-requires c = sym c.requires

pub returns-in-Save : goal.returns-in-Save
unfolding call_in made
returns-in-Save c = rw (c.in-Save.is, c.no_row-in-Save.ensures) (ap (λ o. (call_answer o.0, o.1)) c.save.ensures)

pub drop-requires : goal.drop-requires
drop-requires c = sym c.requires

pub returns-in-Drop : goal.returns-in-Drop
unfolding call_in made
returns-in-Drop c = rw (c.in-Drop.is, c.no_row-in-Drop.ensures) (ap (λ o. (call_answer o.0, o.1)) c.drop.ensures)

pub strike-requires : goal.strike-requires
strike-requires c = sym c.requires

pub returns-in-Strike : goal.returns-in-Strike
unfolding call_in made
returns-in-Strike c = rw (c.in-Strike.is, c.no_row-in-Strike.ensures) (ap (λ o. (call_answer o.0, o.1)) c.strike.ensures)
