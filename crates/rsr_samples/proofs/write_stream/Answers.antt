-- `rsr_samples::write_stream` is safe and ends: so many records are counted that the place fits. Assumes nothing.
use Rattle.std.specs.Prelude.{Option, Ok}
use Rattle.std.proofs.Common.{ℕ, ap, ◌∙◌, arith, rules}
use Rattle.rsr_samples.specs.inner.Outcomes.{step_as}
use Rattle.rsr_samples.proofs.Taken.{all_read}
use Rattle.rsr_samples.proofs.write_stream.Goals as goal

pub loop-turn-preserved : goal.loop-turn-preserved
loop-turn-preserved g c =
    let passed = c.in-Ok-Some in
    let is = ap step_as passed.is ∙ ap (λ (next : Option ℕ). step_as (Ok next)) passed.field-0-is in
    let size = all_read c.take_record.ensures c.next_record-read.ensures is in
    (search rules, search rules, search rules, omega (arith, size, c.next_record-read.ensures.within))
