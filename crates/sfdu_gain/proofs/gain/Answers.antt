-- `sfdu_gain::gain` meets its contract. Assumes nothing.
use native.Mathlib.Omega.{arith}
use mathlib.Core.Path.{sym}
use Rattle.std.proofs.lemmas.Result.{err_from_is_err_and}
use Rattle.settings.proofs.Editions.{known-of, unknown-of}
use Rattle.sfdu_headers.proofs.RsrFound.{Whole, whole, refused-by}
use Rattle.sfdu_gain.proofs.Judged.{gain-refused, gain-unknown, gain-known}
use Rattle.sfdu_gain.proofs.gain.Goals as goal
use Rattle.sfdu_gain.proofs.gain.Goals.{In_ok-read_rsr}

-- What the answer of `read_rsr` says of the record.
found : (c : In_ok-read_rsr) → let rsr = c.in_ok-read_rsr.field-0 in Whole c.args.s.now rsr.size rsr.mission rsr.day_count
found c = whole _ _ _ _ c.in_ok-read_rsr.ensures

pub returns-in_err-read_rsr : goal.returns-in_err-read_rsr
returns-in_err-read_rsr c =
    let p = err_from_is_err_and c.from_residual.result c.from_residual.ensures.1 in
    rw (p.1, p.2) (sym (gain-refused c.args.edition c.args.s.now _ (refused-by c.args.s.now _ c.in_err-read_rsr.ensures)))

pub returns-in_err-edition : goal.returns-in_err-edition
returns-in_err-edition c =
    let w = found (goal.at.returns-in_err-edition c).In_ok-read_rsr in
    let p = err_from_is_err_and c.from_residual-in_err-edition.result c.from_residual-in_err-edition.ensures.1 in
    let u = unknown-of c.args.edition _ c.in_err-edition.ensures in
    rw (p.1, p.2, u.1) (sym (gain-unknown c.args.edition c.args.s.now w.headers u.0))

pub gain_in-requires : goal.gain_in-requires
gain_in-requires c = let w = found (goal.at.gain_in-requires c).In_ok-read_rsr in omega arith

pub returns : goal.returns
returns c =
    let w = found (goal.at.returns c).In_ok-read_rsr in
    let k = known-of c.args.edition c.in_ok-edition.edition c.in_ok-edition.ensures in
    rw (c.gain_in.ensures, k.1) (sym (gain-known c.args.edition c.args.s.now w.headers k.0))
