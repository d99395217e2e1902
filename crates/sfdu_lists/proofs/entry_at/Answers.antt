-- `sfdu_lists::entry_at` meets its contract. Assumes nothing.
use native.Mathlib.Omega.{arith}
use mathlib.Core.Path.{◌∙◌}
use Rattle.sfdu_headers.proofs.Numbers.{number-long}
use Rattle.sfdu_stream.proofs.Places.{whole-record, headers-there}
use Rattle.sfdu_lists.proofs.Underway.{entry-is}
use Rattle.sfdu_lists.proofs.entry_at.Goals as goal

pub slice_bounds-record_number-count : goal.slice_bounds-record_number-count
slice_bounds-record_number-count c =
    let w = whole-record _ _ c.requires.is_whole in
    omega (arith, w.further, w.within)

pub slice_bounds-record_number-start : goal.slice_bounds-record_number-start
slice_bounds-record_number-start c =
    let w = whole-record _ _ c.requires.is_whole in
    omega (arith, w.further, w.within)

pub returns : goal.returns
returns c =
    let there = headers-there c.args.s.now c.args.at c.args.kind c.args.size c.requires in
    entry-is c.args.s.now c.args.at c.args.kind c.args.size c.requires _ _ c.from.ensures
    (c.record_number.ensures ∙ number-long _ _ there)
