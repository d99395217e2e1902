-- `sheet_of` meets its contract. Assumes nothing.
use Rattle.ledger_season.proofs.Sheets.{sheet-part}
use Rattle.ledger_season.proofs.sheet_of.Goals as goal

pub returns : goal.returns
returns c = sheet-part c.args.s.now c.args.k
