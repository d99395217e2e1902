-- `sfdu::reader::secondary_part` meets its contract. Assumes nothing.
use Prim.Native.Nat.{◌-◌, ◌≤◌}
use mathlib.Core.Path.{◌≡◌, refl, sym}
use native.Mathlib.Omega.{arith}
use lib.ListN.{length}
use Rattle.octets.specs.Octets.{part}
use Rattle.sfdu.specs.Read.{primary_words}
use Rattle.sfdu.proofs.Placed.{placed}
use Rattle.sfdu.proofs.Accepted.{Found, record-found, refusal-found}
use Rattle.sfdu.proofs.Parts.{secondary-room, secondary-start, secondary-part, no-parts}
use Rattle.sfdu.specs.Nesting.{secondary_value_at, secondary_length}
use Rattle.sfdu.proofs.reader.secondary_part.Goals as goal
use Rattle.sfdu.proofs.reader.secondary_part.Goals.{In-Ok, After-data_at-e}

-- Where read one answers a record: what is known of it.
found : (c : In-Ok) → let r = c.in-Ok.found in Found c.args.s.now r.kind r.size (primary_words r.primary)
found c = record-found _ c.in-Ok.is c.read_one.ensures

-- The secondary header's end lies past its start, and in the slice.
lies : (c : After-data_at-e) → let s = c.args.s.now in
    (secondary_value_at ≤ c.data_at-e.result) × (c.data_at-e.result ≤ length s)
lies c = rw c.data_at-e.ensures (secondary-room _ _ _ _ (found (goal.at.After-data_at-e c).In-Ok))

pub slice_bounds-result-count : goal.slice_bounds-result-count
slice_bounds-result-count c = omega (arith, (lies (goal.at.slice_bounds-result-count c).After-data_at-e).0)

pub slice_bounds-result-start : goal.slice_bounds-result-start
slice_bounds-result-start c = omega (arith, (lies (goal.at.slice_bounds-result-start c).After-data_at-e).0)

pub slice_bounds-result-end : goal.slice_bounds-result-end
slice_bounds-result-end c = omega (
  arith,
  (lies (goal.at.slice_bounds-result-end c).After-data_at-e).0,
  (lies (goal.at.slice_bounds-result-end c).After-data_at-e).1,
)

pub returns-in-Ok : goal.returns-in-Ok
unfolding part
returns-in-Ok c =
    let f = found (goal.at.returns-in-Ok c).In-Ok in
    let k = c.in-Ok.found.kind in
    let p = placed k in
    let n : c.data_at-e.result - secondary_value_at ≡ secondary_length k = omega (arith, c.data_at-e.ensures) in
    (rw (secondary-part _ _ _ _ f, n), refl, omega (arith, secondary-start _ _ _ _ f))

pub returns-in-Err : goal.returns-in-Err
returns-in-Err c =
    let e = no-parts _ (refusal-found _ c.in-Err.is c.read_one.ensures) in
    (sym e.no-secondary, refl, omega (arith, e.secondary-at))
