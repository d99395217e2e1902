-- `ledger_counts::tick_block` meets its contract. Assumes nothing.
use Rattle.ledger_counts.proofs.BlockBits.{little-block}
use Rattle.ledger_counts.proofs.tick_block.Goals as goal

pub returns : goal.returns
returns c =
    let g = c.args in
    rw c.read_le_u64.ensures (little-block g.s.now g.a g.k c.shared_slice_known-1.given)
