-- `bench::reported` meets its contract. Assumes nothing.
use mathlib.Core.List.{◌∷◌}
use mathlib.Core.Path.{ap, sym}
use Rattle.ledger_sheet.specs.Words.{gaps_values}
use Rattle.bench.specs.inner.Digest.{counts}
use Rattle.bench.proofs.reported.Goals as goal

pub returns-in-None : goal.returns-in-None
returns-in-None c = rw c.packed.ensures (ap (λ g. counts (0 ∷ c.args.report.ticked ∷ gaps_values g)) (sym c.in-None.is))

pub returns-in-Some : goal.returns-in-Some
returns-in-Some c = rw c.packed-in-Some.ensures (ap (λ g. counts (0 ∷ c.args.report.ticked ∷ gaps_values g)) (sym c.in-Some.is))
