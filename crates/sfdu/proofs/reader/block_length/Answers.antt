-- `sfdu::reader::block_length` meets its contract. Assumes nothing.
use native.Mathlib.Omega.{arith}
use Prim.Native.Nat.{◌+◌}
use Rattle.sfdu.specs.Read.{block_length}
use Rattle.octets.proofs.Laws.{number_lt}
use Rattle.sfdu.proofs.reader.block_length.Goals as goal

pub returns : goal.returns
unfolding block_length
returns c =
    let g = c.args in
    record {
      value = c.read_u16.ensures;
      upper_bound = omega (arith, number_lt g.s.now (g.at + 2) 2 c.shared_slice_known-1.given, c.read_u16.ensures);
    }
