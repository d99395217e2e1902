-- `sfdu_list_text::window::list_piece` meets its contract, from what `drain` and the move of the rest ensure. Assumes nothing.
use native.Mathlib.Omega.{arith}
use Prim.Native.Nat.{◌+◌}
use mathlib.Core.Path.{sym}
use lib.Seq.{length-take-le}
use Rattle.sfdu_list_text.proofs.Pieces.{used-held, listed}
use Rattle.sfdu_list_text.proofs.window.list_piece.Goals as goal

pub slice_bounds-drain-end-2 : goal.slice_bounds-drain-end-2
slice_bounds-drain-end-2 c = sym (length-take-le _ _ c.requires.held)

pub drain-d-requires : goal.drain-d-requires
drain-d-requires c =
    let l = length-take-le (c.args.s.have + c.args.got) c.args.w.now c.requires.held in
    (omega (arith, l, c.requires.held, c.requires.window), c.requires.place, c.requires.text)

pub overflow_sub-left : goal.overflow_sub-left
overflow_sub-left c =
    used-held _ _ _ _ _ _ c.requires c.drain-d.ensures

pub copy-requires : goal.copy-requires
copy-requires c =
    let u = used-held _ _ _ _ _ _ c.requires c.drain-d.ensures in
    (omega (arith, c.requires.held), omega (arith, c.requires.held))

pub overflow_add-result : goal.overflow_add-result
overflow_add-result c =
    let u = used-held _ _ _ _ _ _ c.requires c.drain-d.ensures in
    omega (arith, c.requires.place, c.requires.held, c.requires.window)

pub returns : goal.returns
returns c =
    listed _ _ _ _ _ _ c.requires c.drain-d.ensures _ c.copy.ensures
