-- `few_share` ends, and does nothing undefined: its answer decides the speed alone. Assumes nothing.
use native.Mathlib.Omega.{arith}
use Rattle.ledger_season.proofs.Keys.{slot-inside}
use Rattle.ledger_season.proofs.few_share.Goals as goal

pub nonzero_rem-slot : goal.nonzero_rem-slot
nonzero_rem-slot c = omega (arith, c.requires.0)

pub bounds-taken-slot : goal.bounds-taken-slot
bounds-taken-slot c = slot-inside c.args.slots _ c.requires.0 c.requires.1

pub bounds-taken-slot-in-loop-key : goal.bounds-taken-slot-in-loop-key
bounds-taken-slot-in-loop-key c = slot-inside c.args.slots _ c.requires.0 c.requires.1
