-- `sfdu_samples::packs::store` meets its contract. Assumes nothing.
use Rattle.std.proofs.Common.{◌/◌, ◌%◌, arith, length-set}
use Rattle.sfdu_samples.proofs.Stored.{four-stored}
use Rattle.sfdu_samples.proofs.packs.store.Goals as goal

pub bounds-out-at-2 : goal.bounds-out-at-2
bounds-out-at-2 c = simp length-set (omega arith)

pub bounds-out-at-3 : goal.bounds-out-at-3
bounds-out-at-3 c = simp length-set (omega arith)

pub bounds-out-at-4 : goal.bounds-out-at-4
bounds-out-at-4 c = simp length-set (omega arith)

pub returns : goal.returns
returns c =
    let w = c.args.w in
    four-stored c.args.out.now c.args.at (w % 256) (w / 256 % 256) (w / 65536 % 256) (w / 16777216)
