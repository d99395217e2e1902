-- `sfdu::reader::has_data_length` meets its contract. Assumes nothing.
use Prim.Native.Nat.{ℕ, ◌-◌}
use native.Mathlib.Omega.{arith}
use mathlib.Core.Path.{◌≡◌, ap}
use lib.Dec.{eqb}
use Rattle.sfdu.specs.Nesting.{data_at, data_value_at}
use Rattle.sfdu.specs.Read.{record_length, block_length}
use Rattle.sfdu.proofs.Placed.{placed}
use Rattle.sfdu.proofs.reader.has_data_length.Goals as goal

pub block_length-requires : goal.block_length-requires
block_length-requires c = let k = placed c.args.kind in omega arith

pub returns : goal.returns
returns c =
    let s = c.args.s.now in
    let rest : c.args.size - c.data_value_at.result ≡ record_length s - data_value_at c.args.kind = rw (
      c.requires.0,
      c.data_value_at.ensures,
    ) in
    rw (c.block_length.ensures.value, c.data_at.ensures) (ap (λ (n : ℕ). eqb (block_length s (data_at c.args.kind)) n) rest)
