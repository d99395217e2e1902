-- `answers::records::with_fields` meets its contract. Assumes nothing.
use Rattle.answers.proofs.records.with_fields.Goals as goal

pub returns : goal.returns
returns c = rw c.band.ensures
