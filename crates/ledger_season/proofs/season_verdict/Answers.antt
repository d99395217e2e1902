-- `season_verdict` meets its contract. Assumes nothing.
use mathlib.Core.Bool.{true, false}
use mathlib.Core.Path.{◌≡◌}
use Rattle.laws.proofs.Bools.{failed, passed}
use Rattle.refusals.specs.Judge.{judge}
use Rattle.ledger_season.proofs.Judged.{wrong_length, fit, keys-judged}
use Rattle.ledger_season.proofs.season_verdict.Goals as goal

pub returns-then-s-sheets : goal.returns-then-s-sheets
unfolding judge
returns-then-s-sheets c =
    let long : wrong_length c.args.s.now ≡ true = c.if-s-sheets.true in
    rw long

pub are_sheets-requires : goal.are_sheets-requires
are_sheets-requires c =
    let fits = fit c.args.s.now c.if-s-sheets.false in
    (fits.few, fits.within)

pub returns-then-not-are_sheets : goal.returns-then-not-are_sheets
unfolding judge
returns-then-not-are_sheets c = rw (c.if-s-sheets.false, failed c.are_sheets.ensures c.if-not-are_sheets.true-raw)

pub are_keys_new-requires : goal.are_keys_new-requires
are_keys_new-requires c =
    let fits = fit c.args.s.now c.if-s-sheets.false in
    (fits.few, fits.within)

pub returns-then-not-are_keys_new : goal.returns-then-not-are_keys_new
unfolding judge
returns-then-not-are_keys_new c =
    let s = c.args.s.now in
    let are-right = passed c.are_sheets.ensures c.if-not-are_sheets.false-raw in
    let twice = keys-judged s false c.shared_slice_known-1.given are-right (failed c.are_keys_new.ensures c.if-not-are_keys_new.true-raw) in
    rw (c.if-s-sheets.false, are-right, twice)

pub returns : goal.returns
unfolding judge
returns c =
    let s = c.args.s.now in
    let are-right = passed c.are_sheets.ensures c.if-not-are_sheets.false-raw in
    let once = keys-judged s true c.shared_slice_known-1.given are-right (passed c.are_keys_new.ensures c.if-not-are_keys_new.false-raw) in
    rw (c.if-s-sheets.false, are-right, once)
