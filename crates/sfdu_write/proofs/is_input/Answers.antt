-- `sfdu_write::is_input` meets its contract. Assumes nothing.
use Rattle.sfdu_write.specs.Write.{is_input}
use Rattle.sfdu_write.proofs.is_input.Goals as goal

pub returns : goal.returns
unfolding is_input
returns c = rw c.secondary_length.ensures
