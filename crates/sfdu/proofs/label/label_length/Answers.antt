-- `sfdu::label::label_length` meets its contract. Assumes nothing.
use Rattle.sfdu.specs.Read.{label_length}
use Rattle.sfdu.proofs.label.label_length.Goals as goal

pub returns : goal.returns
unfolding label_length
returns c = c.read_u64.ensures
