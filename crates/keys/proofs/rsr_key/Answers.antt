-- `rsr_key` meets its contract: the first number that does not fit is refused. Assumes nothing.
use mathlib.Core.Path.{refl}
use borrow.Author.Tests.{lt-ltb, le-ltb}
use Rattle.keys.specs.Key.{rsr_key_call}
use Rattle.keys.proofs.Laws.{refuses, makes, fitting}
use Rattle.keys.proofs.rsr_key.Goals as goal

pub returns-in_err-spacecraft : goal.returns-in_err-spacecraft
unfolding rsr_key_call
returns-in_err-spacecraft c =
    let no = c.in_err-spacecraft.ensures in
    refuses _ c.from_residual.ensures.1 no.0 _ _ (rw (le-ltb _ _ no.1) refl)

pub returns-in_err-station : goal.returns-in_err-station
unfolding rsr_key_call
returns-in_err-station c =
    let no = c.in_err-station.ensures in
    refuses _ c.from_residual-in_err-station.ensures.1 no.0 _ _ (rw (lt-ltb _ _ c.in_ok-spacecraft.ensures.1, le-ltb _ _ no.1) refl)

pub returns-in_err-receiver : goal.returns-in_err-receiver
unfolding rsr_key_call
returns-in_err-receiver c =
    let no = c.in_err-receiver.ensures in
    refuses _ c.from_residual-in_err-receiver.ensures.1 no.0 _ _ (rw (lt-ltb _ _ c.in_ok-spacecraft.ensures.1, lt-ltb _ _ c.in_ok-station.ensures.1, le-ltb _ _ no.1) refl)

pub returns-in_err-subchannel : goal.returns-in_err-subchannel
unfolding rsr_key_call
returns-in_err-subchannel c =
    let no = c.in_err-subchannel.ensures in
    refuses _ c.from_residual-in_err-subchannel.ensures.1 no.0 _ _ (rw (lt-ltb _ _ c.in_ok-spacecraft.ensures.1, lt-ltb _ _ c.in_ok-station.ensures.1, lt-ltb _ _ c.in_ok-receiver.ensures.1, le-ltb _ _ no.1) refl)

pub returns : goal.returns
unfolding rsr_key_call
returns c = makes _ _ _ (fitting _ _ _ _ _ _ _ _ record { one = c.in_ok-spacecraft.ensures.1; two = c.in_ok-station.ensures.1; three = c.in_ok-receiver.ensures.1; four = c.in_ok-subchannel.ensures.1 })
    (rw (← c.in_ok-spacecraft.ensures.0, ← c.in_ok-station.ensures.0, ← c.in_ok-receiver.ensures.0, ← c.in_ok-subchannel.ensures.0) c.rsr_key_of.ensures)
