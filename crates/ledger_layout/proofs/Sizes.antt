-- The sizes in numbers. Assumes nothing.
use mathlib.Core.Path.{refl}
use Rattle.ledger_layout.specs.Sizes.{Sizes}

pub sizes : Sizes
sizes = record { row = refl; rows = refl; rows_from = refl; desk = refl; desks = refl; desks_from = refl; sheet = refl }
