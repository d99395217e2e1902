-- `octets::clear` meets its contract. Assumes nothing.
use native.Mathlib.Omega.{arith}
use mathlib.Core.Path.{sym, ap, ◌∙◌}
use lib.Seq.{paste}
use lib.ListN.{replicate, length-replicate}
use Rattle.std.proofs.lemmas.Slice.{put_mid-paste}
use Rattle.octets.proofs.Laws.{put_all}
use Rattle.octets.proofs.Parts.{length-lent}
use Rattle.octets.proofs.clear.Goals as goal

pub returns : goal.returns
returns c =
    let g = c.args in
    let zeros = c.fill.ensures.after (λ y e. e) ∙ ap (λ n. replicate n 0) (length-lent g.s.now g.a g.n (omega arith)) in
    let size = length-replicate g.n 0 in
    put_mid-paste _ _ _ _ (replicate g.n 0) g.n zeros (omega arith) (sym size)
    ∙ ap (λ n. paste g.s.now g.a (replicate g.n 0) n) (sym size) ∙ put_all g.s.now g.a (replicate g.n 0)
