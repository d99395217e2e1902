-- `rows_of` meets its contract: the used count of the sheet that stands there, a number of four bytes. Assumes nothing.
use native.Mathlib.Omega.{arith}
use Rattle.octets.proofs.Laws.{number_lt}
use Rattle.octets.proofs.Parts.{bytes-part}
use Prim.Native.Nat.{◌*◌}
use Rattle.ledger_sheet.specs.Sheet.{sheet_size, used_at, header_number_size}
use Rattle.ledger_season.specs.Season.{sheet_at}
use Rattle.season_report_text.proofs.Slots.{part-there}
use Rattle.season_report_text.proofs.sheets.rows_of.Goals as goal

pub returns : goal.returns
returns c =
    let g = c.args in
    let e = rw (part-there g.sheets.now (sheet_size * g.i) sheet_size) at c.rows_used.ensures in
    let b = bytes-part g.sheets.now (sheet_size * g.i) sheet_size c.shared_slice_known-1.given in
    (e, omega (arith, e, number_lt (sheet_at g.sheets.now g.i) used_at header_number_size b))
