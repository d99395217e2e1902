-- `other_slots` meets its contract: each of the primes would do. Assumes nothing.
use Prim.Native.Nat.{ℕ}
use mathlib.Core.List.{List}
use mathlib.Core.Path.{refl, ap}
use lib.ListN.{length}
use native.Mathlib.Omega.{arith}
use Rattle.ledger_season.proofs.Keys.{prime-fits}
use Rattle.ledger_season.proofs.other_slots.Goals as goal

pub loop-slots-init : goal.loop-slots-init
loop-slots-init c = refl

pub few_share-requires : goal.few_share-requires
few_share-requires c =
    let all = c.loop-slots.invariant in
    prime-fits _ all c.loop-slots.slots-index (omega (arith, ap (λ (l : List ℕ). length l) all))

pub returns-then-few_share : goal.returns-then-few_share
returns-then-few_share c =
    let all = c.loop-slots.invariant in
    prime-fits _ all c.loop-slots.slots-index (omega (arith, ap (λ (l : List ℕ). length l) all))

pub returns : goal.returns
returns c = (omega arith, omega arith)
