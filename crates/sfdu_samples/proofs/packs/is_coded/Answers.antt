-- `sfdu_samples::packs::is_coded` meets its contract. The invariant: the flag says whether the numbers passed have codes.
-- Assumes nothing.
use Rattle.std.proofs.Common.{◌≡◌, length, get_or, pos, sym, arith, w32}
use borrow.Author.Rules.{sfits_of}
use mir.ValLaws.{to_z-of_z}
use Rattle.octets.proofs.Laws.{all_none, all-next}
use Rattle.sfdu_samples.proofs.packs.is_coded.Goals as goal

pub loop-z-init : goal.loop-z-init
loop-z-init c = sym (all_none _)

pub loop-z-preserved : goal.loop-z-preserved
loop-z-preserved c =
    let same = to_z-of_z w32 (get_or c.args.samples.now c.loop-z.z-index (pos 0)) (sfits_of c.has_code-arg-1.given) in
    rw (c.loop-z.invariant, c.has_code-every.ensures, same) (sym (all-next _ _))

pub returns : goal.returns
returns c =
    let e : c.loop-z.z-index ≡ length c.args.samples.now = omega arith in
    rw e at c.loop-z.invariant
