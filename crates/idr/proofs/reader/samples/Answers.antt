-- `idr::reader::samples` meets its contract. Assumes nothing.
use native.Mathlib.Omega.{arith}
use mathlib.Core.Path.{refl, sym}
use Rattle.octets.specs.Octets.{part}
use Rattle.idr.proofs.Judging.{accepted-length, samples-there, samples-none}
use Rattle.idr.proofs.reader.samples.Goals as goal

pub slice_bounds-result-end : goal.slice_bounds-result-end
slice_bounds-result-end c =
    let l = accepted-length c.args.s.now c.in-Ok.ensures.1 in
    omega arith

pub returns-in-Ok : goal.returns-in-Ok
unfolding part
returns-in-Ok c =
    let p = samples-there c.args.s.now c.in-Ok.ensures.1 in
    (sym p.there, refl, omega (arith, p.start))

pub returns-in-Err : goal.returns-in-Err
returns-in-Err c =
    let p = samples-none c.args.s.now c.in-Err.field-0 c.in-Err.ensures in
    (sym p.empty, refl, omega (arith, p.start))
