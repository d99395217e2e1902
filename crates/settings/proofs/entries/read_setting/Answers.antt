-- `entries::read_setting` meets its contract: one byte fits 8 bits, and 32. Assumes nothing.
use Prim.Native.Nat.{◌+◌}
use native.Mathlib.Omega.{arith}
use Rattle.octets.proofs.Laws.{number_lt}
use Rattle.settings.specs.Sheet.{byte_size, mission_at, edition_at, setting_from}
use Rattle.settings.proofs.entries.read_setting.Goals as goal

pub overflow_cast-result : goal.overflow_cast-result
overflow_cast-result c =
    let g = c.args in
    rw c.read_be.ensures (record { fits = number_lt g.s.now (g.a + mission_at) byte_size c.shared_slice_known-1.given })

pub overflow_cast-result-2 : goal.overflow_cast-result-2
overflow_cast-result-2 c = let g = c.args in
    let byte = number_lt g.s.now (g.a + edition_at) byte_size c.shared_slice_known-1.given in
    rw c.read_be-2.ensures (omega arith)

pub returns : goal.returns
unfolding setting_from
returns c = rw (c.read_be.ensures, c.read_be-2.ensures, c.read_u32.ensures, c.read_u32-2.ensures)
