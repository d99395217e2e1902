-- `idr_list_text::lines::words` meets its contract. Assumes nothing.
use Rattle.idr_list_text.specs.Text.{why}
use Rattle.idr_list_text.proofs.lines.words.Goals as goal

pub returns-in-None-clause-value : goal.returns-in-None-clause-value
unfolding why
returns-in-None-clause-value c = rw c.in-None.is
