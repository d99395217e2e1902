use Rattle.ledger_sheet.proofs.right.is_stream.Goals as goal

pub returns : goal.returns
returns c = rw (c.valid.ensures, c.is_number.ensures)
