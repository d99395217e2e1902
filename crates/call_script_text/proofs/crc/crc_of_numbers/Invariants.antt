-- `crc::crc_of_numbers` meets its contract. The invariant: before the first number the register is all ones. Assumes nothing.
use mathlib.Core.Path.{◌≡◌}
use Rattle.call_script_text.proofs.crc.crc_of_numbers.Given as goal

abbrev pub invariant-loop-n : goal.invariant-loop-n
invariant-loop-n g l = l.n-index ≡ 0 → l.register ≡ 4294967295
