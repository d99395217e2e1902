-- `right::is_other` meets its contract. Assumes nothing.
use mathlib.Core.Path.{◌≡◌, sym}
use native.Mathlib.Omega.{arith}
use lib.ListN.{length}
use Rattle.octets.proofs.Laws.{all_none, all-next}
use Rattle.ledger_sheet.proofs.right.is_other.Goals as goal

pub loop-k-init : goal.loop-k-init
loop-k-init c = sym (all_none _)

pub loop-k-preserved : goal.loop-k-preserved
loop-k-preserved c = rw (all-next, c.loop-k.invariant)

pub returns : goal.returns
returns c = let e : length c.args.keys.now ≡ c.loop-k.k-index = omega arith in rw e c.loop-k.invariant
