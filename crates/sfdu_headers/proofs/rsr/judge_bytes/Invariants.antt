-- `sfdu_headers::rsr::judge_bytes` meets its contract. The invariant: the code's table is the specification's, and what is left of it
-- decides. Assumes nothing.
use Prim.Native.Nat.{◌≤◌, ◌-◌}
use mathlib.Core.Path.{◌≡◌}
use Rattle.sfdu.specs.inner.Checked.{checked}
use Rattle.refusals.specs.declared.Refusal.TheVariants.{FieldRange}
use Rattle.sfdu_headers.specs.Ranges.{judged_bytes, byte_rules}
use Rattle.sfdu_headers.proofs.Table.{entries, fault_from}
use Rattle.sfdu_headers.proofs.rsr.judge_bytes.Given as goal

abbrev pub invariant-loop-rule : goal.invariant-loop-rule
invariant-loop-rule l = (l.rule-index ≤ entries) × (l.rule-items ≡ judged_bytes) × (checked FieldRange (byte_rules l.s) ≡ fault_from l.s l.rule-index)

abbrev pub decreases-loop-rule : goal.decreases-loop-rule
decreases-loop-rule l = entries - l.rule-index
