-- `idr::rules::is_block` meets its contract. Assumes nothing.
use Rattle.idr.specs.Rules.{is_block}
use Rattle.idr.proofs.rules.is_block.Goals as goal

pub returns : goal.returns
unfolding is_block
returns c = rw c.block_stored.ensures.0
