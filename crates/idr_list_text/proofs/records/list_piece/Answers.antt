-- `idr_list_text::records::list_piece` meets its contract: it waits for a whole record, or lists what is held. Assumes nothing.
use Prim.Native.Nat.{◌+◌}
use mathlib.Core.Bool.{not}
use mathlib.Core.Path.{sym}
use borrow.Author.Tests.{ltb-true, not-true}
use lib.Dec.{eqb, ltb}
use lib.Seq.{length-take-le}
use Rattle.laws.proofs.Bools.{and_split}
use Rattle.idr.specs.Words.{record_size}
use Rattle.idr_list_text.proofs.Pieces.{waits, listed, all_there}
use borrow.Author.Rules.{rules}
use Rattle.idr_list_text.proofs.records.list_piece.Goals as goal

pub returns-then-got-held : goal.returns-then-got-held
returns-then-got-held c =
    let got = c.args.got in
    let both = and_split (not (eqb got 0)) (ltb (c.args.s.have + got) record_size) c.if-got-held.true in
    waits _ _ _ _ c.requires (not-true _ both.0) (ltb-true _ _ both.1)

pub slice_bounds-list_record-end : goal.slice_bounds-list_record-end
slice_bounds-list_record-end c =
    sym (length-take-le _ _ c.requires.held)

pub returns : goal.returns
returns c =
    let over = c.if-got-held.false in
    listed _ _ _ _ c.requires _ _ (all_there _ _ _ _ c.requires over) (search rules)
    c.list_record-listed.ensures.lists_one c.list_record-listed.ensures.end_bound
