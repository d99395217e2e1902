-- `octets::copy_in` meets its contract. Assumes nothing.
use native.Mathlib.Omega.{arith}
use mathlib.Core.Path.{refl, ◌∙◌}
use Rattle.std.proofs.lemmas.Slice.{put_mid-paste}
use Rattle.octets.proofs.Laws.{put_all}
use Rattle.octets.proofs.copy_in.Goals as goal

pub returns : goal.returns
returns c = put_mid-paste _ _ _ _ _ _ c.copy_from_slice.ensures.after (omega arith) refl ∙ put_all _ _ _
