-- `ledger_receive::receive_all` meets its contract. The loop's invariant is `Round` of `Rounds.antt`; the measure is the number of entries that
-- are free. Assumes nothing.
use Prim.Native.Nat.{◌≤◌, ◌<◌}
use native.Mathlib.Omega.{arith}
use mathlib.Core.Path.{◌≡◌, sym, ◌∙◌}
use borrow.Author.Rules.{scaled_Fits}
use lib.ListN.{length}
use Rattle.ledger_sheet.proofs.Clauses.{right-parts}
use Rattle.ledger_layout.specs.Layout.{book_of}
use Rattle.ledger_receive.proofs.Sheets.{holds-own, holds-right}
use Rattle.ledger_receive.proofs.Rounds.{round-begins, round-length, round-few, round-goes, round-ends}
use Rattle.ledger_receive.proofs.Rounds.{turn-within, turn-place, turn-whole, turn-kind, turn-number}
use Rattle.ledger_receive.specs.inner.Calls.{outcome_of}
use Rattle.ledger_receive.proofs.receive_all.Goals as goal
use Rattle.ledger_receive.proofs.receive_all.Goals.{In-Ok, At-loop-turn}

-- Where the turn lists a record, it stands in the stream, and an entry is free.
place : (c : In-Ok) → c.loop-turn.at ≤ length c.args.stream.now
place c =
    turn-place _ _ _ _ c.requires.is-desk _ _ _ _ _ c.loop-turn.invariant c.in-Ok.turn c.in-Ok.ensures

within : (c : In-Ok) → c.loop-turn.i < length c.args.list.now
within c =
    turn-within _ _ _ _ c.requires.is-desk _ _ _ _ _ c.loop-turn.invariant c.in-Ok.turn c.in-Ok.ensures

-- The list keeps its length, and no more are ticked than there are outcomes.
long : (c : At-loop-turn) → length c.loop-turn.list ≡ length c.args.list.now
long c = round-length _ _ _ _ c.requires.is-desk _ _ _ _ _ c.loop-turn.invariant

few : (c : At-loop-turn) → c.loop-turn.ticked ≤ c.loop-turn.i
few c = round-few _ _ _ _ c.requires.is-desk _ _ _ _ _ c.loop-turn.invariant

pub loop-turn-init : goal.loop-turn-init
loop-turn-init c =
    let g = c.args in
    let h = holds-own g.s.now c.slice_known-1.given c.requires.is_right in
    round-begins g.stream.now g.list.now (book_of g.s.now) g.desk c.requires.is-desk g.s.now h c.requires.is-closed

pub slice_bounds-visit_record-count : goal.slice_bounds-visit_record-count
slice_bounds-visit_record-count c = omega (arith, place (goal.at.slice_bounds-visit_record-count c).In-Ok)

pub slice_bounds-visit_record-start : goal.slice_bounds-visit_record-start
slice_bounds-visit_record-start c = omega (arith, place (goal.at.slice_bounds-visit_record-start c).In-Ok)

pub slice_bounds-visit_record-end : goal.slice_bounds-visit_record-end
slice_bounds-visit_record-end c = omega (arith, place (goal.at.slice_bounds-visit_record-end c).In-Ok)

pub visit_record-outcome-requires : goal.visit_record-outcome-requires
visit_record-outcome-requires c = (
  holds-right c.loop-turn.invariant.holds,
  turn-whole _ _ _ _ c.requires.is-desk _ _ _ _ _ c.loop-turn.invariant c.in-Ok.turn c.in-Ok.ensures,
  turn-kind _ _ _ _ c.requires.is-desk _ _ _ _ _ c.loop-turn.invariant c.in-Ok.turn c.in-Ok.ensures,
  turn-number _ _ _ _ c.requires.is-desk _ _ _ _ _ c.loop-turn.invariant c.in-Ok.turn c.in-Ok.ensures,
)

pub offset_bounds-list-i : goal.offset_bounds-list-i
offset_bounds-list-i c =
    scaled_Fits _ _ 4 (within (goal.at.offset_bounds-list-i c).In-Ok) c.well_formed.1.1.1.0.1

pub bounds-list-i : goal.bounds-list-i
bounds-list-i c =
    omega (arith, within (goal.at.bounds-list-i c).In-Ok, long (goal.at.bounds-list-i c).At-loop-turn)

pub tally-ticked-requires : goal.tally-ticked-requires
tally-ticked-requires c =
    omega (
      arith,
      within (goal.at.tally-ticked-requires c).In-Ok,
      few (goal.at.tally-ticked-requires c).At-loop-turn,
      scaled_Fits _ _ 4 (within (goal.at.tally-ticked-requires c).In-Ok) c.well_formed.1.1.1.0.1,
    )

pub overflow_add-i : goal.overflow_add-i
overflow_add-i c =
    omega (arith, within (goal.at.overflow_add-i c).In-Ok, scaled_Fits _ _ 4 (within (goal.at.overflow_add-i c).In-Ok) c.well_formed.1.1.1.0.1)

pub loop-turn-smaller : goal.loop-turn-smaller
loop-turn-smaller c =
    omega (arith, within (goal.at.loop-turn-smaller c).In-Ok)

pub loop-turn-preserved : goal.loop-turn-preserved
loop-turn-preserved c =
    rw c.outcome_number.ensures
    (round-goes _ _ _ _ c.requires.is-desk _ _ _ _ _ c.loop-turn.invariant c.in-Ok.turn c.in-Ok.ensures
    (outcome_of c.visit_record-outcome.result) _ c.visit_record-outcome.ensures c.tally-ticked.result c.tally-ticked.ensures)

pub shape_of-s-in-Err : goal.shape_of-s-in-Err
shape_of-s-in-Err c =
    (right-parts _ (holds-right c.loop-turn.invariant.holds)).long ∙ sym (right-parts _ c.requires.is_right).long

pub shape_of-list-in-Err : goal.shape_of-list-in-Err
shape_of-list-in-Err c = long (goal.at.shape_of-list-in-Err c).At-loop-turn

pub returns-in-Err : goal.returns-in-Err
returns-in-Err c =
    round-ends _ _ _ _ c.requires.is-desk _ _ _ _ _ c.loop-turn.invariant c.in-Err.walked c.in-Err.ensures
