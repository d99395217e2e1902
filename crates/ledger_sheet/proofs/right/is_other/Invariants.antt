-- `right::is_other` meets its contract. The invariant: `other` says whether the key is none of those gone through. Assumes nothing.
use mathlib.Core.Bool.{not}
use mathlib.Core.Path.{◌≡◌}
use lib.Dec.{eqb}
use lib.ListN.{get_or}
use Rattle.octets.specs.Octets.{all}
use Rattle.ledger_sheet.proofs.right.is_other.Given as goal

abbrev pub invariant-loop-k : goal.invariant-loop-k
invariant-loop-k l = l.other ≡ all l.k-index (λ j. not (eqb (get_or l.keys j 0) l.key))
