-- `sfdu::label::is_label` meets its contract. Assumes nothing.
use Rattle.sfdu.proofs.Wholes.{label-number}
use Rattle.sfdu.proofs.label.is_label.Goals as goal

pub returns : goal.returns
returns c =
    label-number c.args.s.now c.shared_slice_known-1.given c.args.at c.args.class c.args.size _ c.read_u32.ensures c.requires.2
