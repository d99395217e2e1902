-- `idr::words::header` meets its contract. The invariant: the first i words are filled in. Assumes nothing.
use native.Mathlib.Nat.{zero-add}
use native.Mathlib.Omega.{arith}
use mathlib.Core.Path.{◌≡◌, refl, sym, ◌∙◌}
use lib.ListN.{get_or, length-set}
use Rattle.octets.proofs.Puts.{put_whole}
use Rattle.octets.proofs.Laws.{putting-none, putting-more, putting-all}
use Rattle.idr.specs.Words.{header_count, header}
use Rattle.idr.proofs.Header.{length-header, header-get}
use Rattle.idr.proofs.words.header.Goals as goal

pub loop-i-init : goal.loop-i-init
loop-i-init c = (putting-none _ _ _, refl)

pub loop-i-preserved : goal.loop-i-preserved
loop-i-preserved c =
    let g = c.args in
    let i = c.loop-i.i in
    let read : get_or (header g.s.now) i 0 ≡ c.read_u16.result = header-get g.s.now i c.loop-i-test.true ∙ sym c.read_u16.ensures in (
      rw zero-add at (putting-more _ 0 (header g.s.now) i _ c.loop-i.invariant.0 read (omega arith) (omega (arith, length-header g.s.now))),
      rw length-set c.loop-i.invariant.1,
    )

pub returns : goal.returns
returns c =
    let s = c.args.s.now in
    let z : c.loop-i.i ≡ header_count = omega arith in
    putting-all _ 0 (header s) _ c.loop-i.invariant.0 (length-header s ∙ sym z) ∙ put_whole _ (header s) (length-header s)
