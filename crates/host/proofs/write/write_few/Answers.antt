-- `host::write::write_few` meets its contract. Assumes nothing.
use Prim.Native.Nat.{◌-◌}
use native.Mathlib.Omega.{arith}
use mathlib.Core.Path.{◌≡◌, sym}
use lib.ListN.{length, replicate, get_or-append}
use Rattle.answers.specs.Numbers.{number_count}
use Rattle.answers.specs.inner.Numbers.{few_count}
use Rattle.host.proofs.Bytes.{put-few}
use Rattle.host.proofs.write.write_few.Goals as goal

pub returns : goal.returns
returns c =
    let ns = c.args.numbers in
    let size : length ns ≡ few_count = omega arith in
    let left = put-few c.args.answer.now ns c.requires.0 size c.write_numbers.ensures c.clear.ensures in
    (sym (get_or-append ns (replicate (number_count - few_count) 0) 0 0 (omega (arith, size))), left)
