-- `lay_out` meets its contract. Assumes nothing.
use Rattle.ledger_convert.proofs.Read.{long}
use Rattle.ledger_convert.proofs.Laying.{fresh-laid, all_laid}
use Rattle.ledger_convert.proofs.lay_out.Goals as goal

pub rows_used-used-requires : goal.rows_used-used-requires
rows_used-used-requires c = long _ c.requires.1

pub write_rows-requires : goal.write_rows-requires
write_rows-requires c =
    let used = c.rows_used-used.ensures in
    record { right_sheet = (c.requires.1, used); laid = fresh-laid _ c.make_fresh.ensures (rw used at c.write_be.ensures) }

pub returns : goal.returns
returns c =
    all_laid _ c.requires.1 _ c.write_desks.ensures
