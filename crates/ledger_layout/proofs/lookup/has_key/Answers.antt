-- `has_key` meets its contract. Assumes nothing.
use Rattle.std.proofs.Common.{◌∙◌}
use Rattle.ledger_layout.proofs.Scans.{some-found, has-key}
use Rattle.ledger_layout.proofs.lookup.has_key.Goals as goal

pub returns : goal.returns
returns c = rw (c.is_some.ensures, c.find_row.ensures) (some-found _ ∙ has-key _ _)
