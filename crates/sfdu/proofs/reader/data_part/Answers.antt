-- `sfdu::reader::data_part` meets its contract. Assumes nothing.
use Prim.Native.Nat.{◌≤◌}
use mathlib.Core.Path.{refl, sym}
use native.Mathlib.Omega.{arith}
use lib.ListN.{length}
use Rattle.octets.specs.Octets.{part}
use Rattle.sfdu.specs.Read.{primary_words}
use Rattle.sfdu.proofs.Accepted.{Found, record-found, refusal-found}
use Rattle.sfdu.proofs.Parts.{room, data-start, data-part, no-parts}
use Rattle.sfdu.proofs.reader.data_part.Goals as goal
use Rattle.sfdu.proofs.reader.data_part.Goals.{In-Ok, After-data_value_at-a}

-- Where read one answers a record: what is known of it.
found : (c : In-Ok) → let r = c.in-Ok.found in Found c.args.s.now r.kind r.size (primary_words r.primary)
found c = record-found _ c.in-Ok.is c.read_one.ensures

-- The data start in the record, and the record ends in the slice.
lies : (c : After-data_value_at-a) → let n = c.in-Ok.found.size in
    (c.data_value_at-a.result ≤ n) × (n ≤ length c.args.s.now)
lies c = rw c.data_value_at-a.ensures (room _ _ _ _ (found (goal.at.After-data_value_at-a c).In-Ok))

pub slice_bounds-result-count : goal.slice_bounds-result-count
slice_bounds-result-count c = omega (arith, (lies (goal.at.slice_bounds-result-count c).After-data_value_at-a).0)

pub slice_bounds-result-start : goal.slice_bounds-result-start
slice_bounds-result-start c = omega (arith, (lies (goal.at.slice_bounds-result-start c).After-data_value_at-a).0)

pub slice_bounds-result-end : goal.slice_bounds-result-end
slice_bounds-result-end c = omega (
  arith,
  (lies (goal.at.slice_bounds-result-end c).After-data_value_at-a).0,
  (lies (goal.at.slice_bounds-result-end c).After-data_value_at-a).1,
)

pub returns-in-Ok : goal.returns-in-Ok
unfolding part
returns-in-Ok c =
    let f = found (goal.at.returns-in-Ok c).In-Ok in
    let at = c.data_value_at-a.ensures in
    (rw (data-part _ _ _ _ f, at), refl, omega (arith, data-start _ _ _ _ f, at))

pub returns-in-Err : goal.returns-in-Err
returns-in-Err c =
    let e = no-parts _ (refusal-found _ c.in-Err.is c.read_one.ensures) in
    (sym e.no-data, refl, omega (arith, e.data-at))
