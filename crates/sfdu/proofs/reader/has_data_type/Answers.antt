-- `sfdu::reader::has_data_type` meets its contract. Assumes nothing.
use native.Mathlib.Omega.{arith}
use Rattle.sfdu.specs.Read.{block_type}
use Rattle.sfdu.proofs.Placed.{placed}
use Rattle.sfdu.proofs.reader.has_data_type.Goals as goal

pub read_u16-requires : goal.read_u16-requires
read_u16-requires c = let k = placed c.args.kind in omega arith

pub returns : goal.returns
unfolding block_type
returns c = rw (c.read_u16.ensures, c.data_at.ensures)
