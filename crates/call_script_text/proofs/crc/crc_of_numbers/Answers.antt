-- `crc::crc_of_numbers` meets its contract. Assumes nothing.
use native.Mathlib.Omega.{arith}
use mathlib.Core.Path.{refl}
use Rattle.call_script_text.proofs.crc.crc_of_numbers.Goals as goal

pub loop-n-init : goal.loop-n-init
loop-n-init g c = λ _. refl

pub loop-n-preserved : goal.loop-n-preserved
loop-n-preserved g c = λ e. absurd (omega (arith, e))

pub returns : goal.returns
returns g c = λ none. rw (c.loop-n.invariant (omega (arith, none))) refl
