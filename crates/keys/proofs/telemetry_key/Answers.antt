-- `telemetry_key` meets its contract: the first number that does not fit is refused. Assumes nothing.
use mathlib.Core.Path.{refl}
use borrow.Author.Tests.{lt-ltb, le-ltb}
use Rattle.keys.specs.Key.{telemetry_key_call}
use Rattle.keys.proofs.Laws.{refuses, makes, fitting}
use Rattle.keys.proofs.telemetry_key.Goals as goal

pub returns-in_err-spacecraft : goal.returns-in_err-spacecraft
unfolding telemetry_key_call
returns-in_err-spacecraft c =
    let no = c.in_err-spacecraft.ensures in
    refuses _ c.from_residual.ensures.1 no.0 _ _ (rw (le-ltb _ 1024 no.1) refl)

pub returns-in_err-source : goal.returns-in_err-source
unfolding telemetry_key_call
returns-in_err-source c =
    let no = c.in_err-source.ensures in
    refuses _ c.from_residual-in_err-source.ensures.1 no.0 _ _ (rw (lt-ltb _ 1024 c.in_ok-spacecraft.ensures.1, le-ltb _ 256 no.1) refl)

pub returns-in_err-equipment : goal.returns-in_err-equipment
unfolding telemetry_key_call
returns-in_err-equipment c =
    let no = c.in_err-equipment.ensures in
    refuses _ c.from_residual-in_err-equipment.ensures.1 no.0 _ _ (rw (lt-ltb _ 1024 c.in_ok-spacecraft.ensures.1, lt-ltb _ 256 c.in_ok-source.ensures.1, le-ltb _ 65536 no.1) refl)

pub returns-in_err-stream : goal.returns-in_err-stream
unfolding telemetry_key_call
returns-in_err-stream c =
    let no = c.in_err-stream.ensures in
    refuses _ c.from_residual-in_err-stream.ensures.1 no.0 _ _ (rw (lt-ltb _ 1024 c.in_ok-spacecraft.ensures.1, lt-ltb _ 256 c.in_ok-source.ensures.1, lt-ltb _ 65536 c.in_ok-equipment.ensures.1, le-ltb _ 256 no.1) refl)

pub returns : goal.returns
unfolding telemetry_key_call
returns c = makes _ _ _ (fitting _ _ _ _ _ _ _ _ record { one = c.in_ok-spacecraft.ensures.1; two = c.in_ok-source.ensures.1; three = c.in_ok-equipment.ensures.1; four = c.in_ok-stream.ensures.1 })
    (rw (← c.in_ok-spacecraft.ensures.0, ← c.in_ok-source.ensures.0, ← c.in_ok-equipment.ensures.0, ← c.in_ok-stream.ensures.0) c.telemetry_key_of.ensures)
