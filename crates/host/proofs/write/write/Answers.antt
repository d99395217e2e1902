-- `host::write::write` meets its contract. Assumes nothing.
use native.Mathlib.Omega.{arith}
use mathlib.Core.Path.{refl, ◌∙◌}
use Rattle.host.proofs.Bytes.{put_whole}
use Rattle.host.proofs.write.write.Goals as goal

pub returns : goal.returns
returns c = (refl, c.write_numbers.ensures ∙ put_whole c.args.answer.now c.args.numbers (omega arith))
