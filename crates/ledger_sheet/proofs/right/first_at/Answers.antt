-- `right::first_at` meets its contract: four bytes fit 32 bits. Assumes nothing.
use Prim.Native.Nat.{◌+◌}
use Rattle.octets.proofs.Laws.{number_lt}
use Rattle.ledger_sheet.specs.Sheet.{first_at, first_size}
use Rattle.ledger_sheet.proofs.right.first_at.Goals as goal

pub overflow_cast-result : goal.overflow_cast-result
overflow_cast-result c =
    let g = c.args in
    rw c.read_be.ensures (record { fits = number_lt g.s.now (g.a + first_at) first_size c.shared_slice_known-1.given })
