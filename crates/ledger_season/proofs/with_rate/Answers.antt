-- `with_rate` meets its contract. Assumes nothing.
use Rattle.ledger_season.specs.Report.{three}
use Rattle.ledger_season.proofs.with_rate.Goals as goal

pub returns : goal.returns
unfolding three
returns c = rw c.per_million.ensures
