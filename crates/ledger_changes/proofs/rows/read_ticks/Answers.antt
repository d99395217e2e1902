-- `rows::read_ticks` meets its contract. Assumes nothing.
use Rattle.std.proofs.Common.{◌≡◌, ◌∙◌, ◌+◌, ◌-◌, arith}
use Rattle.octets.specs.Octets.{part}
use Rattle.ledger_sheet.specs.Sheet.{ticks_size}
use Rattle.ledger_changes.proofs.rows.read_ticks.Goals as goal

pub returns : goal.returns
unfolding part
returns c =
    let n : c.args.a + ticks_size - c.args.a ≡ ticks_size = omega arith in
    c.copy_from_slice.ensures.after ∙ rw n
