-- `rsr_samples::output::write_parts` meets its contract, and ends: each part goes on past the place where it begins. Assumes nothing.
use Rattle.std.proofs.Common.{◌≡◌, ◌-◌, ◌≤◌, length}
use Rattle.rsr_samples.specs.Parts.{Came}
use Rattle.rsr_samples.proofs.output.write_parts.Given as goal

abbrev pub invariant-loop-from : goal.invariant-loop-from
invariant-loop-from l = (l.from ≤ length l.list) × (length l.out ≡ length l.initial.out) × Came l.raw l.list l.from l.out

abbrev pub decreases-loop-from : goal.decreases-loop-from
decreases-loop-from l = length l.list - l.from
