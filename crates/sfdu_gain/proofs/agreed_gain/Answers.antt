-- `sfdu_gain::agreed_gain` meets its contract. Assumes nothing.
use native.Mathlib.Omega.{arith}
use mathlib.Core.List.{List}
use mathlib.Core.Path.{sym, ap}
use Prim.Native.Nat.{ℕ}
use Rattle.std.proofs.lemmas.Result.{err_from_is_err_and}
use Rattle.sfdu_headers.proofs.RsrFound.{Whole, whole, refused-by}
use Rattle.sfdu_gain.proofs.Judged.{agreed-refused, agreed-given, agreed-not}
use Rattle.sfdu_gain.proofs.agreed_gain.Goals as goal
use Rattle.sfdu_gain.proofs.agreed_gain.Goals.{In_ok-rsr}

-- What the answer of `read_rsr` says of the record.
found : (c : In_ok-rsr) → let rsr = c.in_ok-rsr.rsr in Whole c.args.s.now rsr.size rsr.mission rsr.day_count
found c = whole _ _ _ _ c.in_ok-rsr.ensures

pub returns-in_err-rsr : goal.returns-in_err-rsr
returns-in_err-rsr c =
    let p = err_from_is_err_and c.from_residual.result c.from_residual.ensures.1 in
    rw (p.1, p.2) (sym (agreed-refused c.args.sheet.now c.args.s.now _ (refused-by c.args.s.now _ c.in_err-rsr.ensures)))

pub returns-in_err-agreement : goal.returns-in_err-agreement
returns-in_err-agreement c =
    let w = found (goal.at.returns-in_err-agreement c).In_ok-rsr in
    let p = err_from_is_err_and c.from_residual-in_err-agreement.result c.from_residual-in_err-agreement.ensures.1 in
    let words = ap (λ (p : List ℕ × List ℕ). p.0) c.in_err-agreement.ensures in
    rw (p.1, p.2) (agreed-not c.args.sheet.now c.args.s.now w.headers _ (rw (w.mission-is, w.day-is) at words))

pub gain_in-requires : goal.gain_in-requires
gain_in-requires c = let w = found (goal.at.gain_in-requires c).In_ok-rsr in omega arith

pub returns : goal.returns
returns c =
    let w = found (goal.at.returns c).In_ok-rsr in
    let words = ap (λ (p : List ℕ × List ℕ). p.0) c.in_ok-agreement.ensures in
    rw c.gain_in.ensures (agreed-given c.args.sheet.now c.args.s.now w.headers c.in_ok-agreement.agreement (rw (w.mission-is, w.day-is) at words))
