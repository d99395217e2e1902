-- `are_new_in` meets its contract. The invariant: the first keys are different, and their slots are taken. Assumes nothing.
use mathlib.Core.Bool.{true}
use mathlib.Core.Path.{◌≡◌, refl, sym, ◌∙◌}
use native.Mathlib.Omega.{arith}
use lib.ListN.{length, get_or}
use Rattle.laws.proofs.Bools.{failed}
use Rattle.octets.proofs.Laws.{all_none, all_more, all-fails}
use Rattle.ledger_sheet.proofs.RowsRead.{front-other}
use Rattle.ledger_season.specs.inner.Gathered.{is_new, are_new}
use Rattle.ledger_season.proofs.Keys.{covers-none, covers_more, slot-free, slot-inside}
use Rattle.ledger_season.proofs.are_new_in.Goals as goal
use Rattle.ledger_season.proofs.are_new_in.Goals.{then-taken-slot+else-not-is_other, else-taken-slot}

pub loop-i-init : goal.loop-i-init
unfolding are_new
loop-i-init c = (all_none _, covers-none _ _ _ refl)

pub nonzero_rem-slot : goal.nonzero_rem-slot
nonzero_rem-slot c = omega (arith, c.requires.0)

pub bounds-taken-slot : goal.bounds-taken-slot
bounds-taken-slot c = slot-inside c.args.slots _ c.requires.0 c.requires.1

pub returns-then-not-is_other : goal.returns-then-not-is_other
unfolding are_new is_new
returns-then-not-is_other c =
    let keys = c.args.keys.now in
    let other = c.is_other.ensures ∙ front-other keys c.loop-i.i (get_or keys c.loop-i.i 0) (omega arith) in
    sym (all-fails (length keys) c.loop-i.i _ (omega arith) (failed other c.if-not-is_other.true-raw))

pub bounds-taken-slot-in-loop-i : goal.bounds-taken-slot-in-loop-i
bounds-taken-slot-in-loop-i c = slot-inside c.args.slots _ c.requires.0 c.requires.1

pub loop-i-preserved : goal.loop-i-preserved
unfolding are_new is_new
loop-i-preserved c =
    let p = c.args.slots in
    let keys = c.args.keys.now in
    let i = c.loop-i.i in
    let at = c.loop-i.invariant in
    let new : is_new keys i (get_or keys i 0) ≡ true = elim c.if-taken-slot.branch [
      | then-taken-slot+else-not-is_other w ↦
          sym (w.is_other.ensures ∙ front-other keys i (get_or keys i 0) (omega arith)) ∙ w.if-not-is_other.false
      | else-taken-slot w ↦ slot-free p c.requires.0 c.requires.1 keys c.loop-i.taken i at.1 w.if-taken-slot.false
    ] in
    (all_more i _ at.0 new, covers_more p c.requires.0 c.requires.1 keys c.loop-i.taken i at.1)

pub returns : goal.returns
unfolding are_new
returns c = let e : length c.args.keys.now ≡ c.loop-i.i = omega arith in rw e (sym c.loop-i.invariant.0)
