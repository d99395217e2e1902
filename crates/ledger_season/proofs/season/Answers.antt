-- `season` meets its contract. Assumes nothing.
use mathlib.Core.Path.{ap, ◌∙◌}
use Rattle.std.proofs.lemmas.Result.{err_from_is_err_and}
use Rattle.ledger_season.specs.Report.{most_sheets}
use Rattle.ledger_season.proofs.Judged.{season-refused, season-accepted}
use Rattle.ledger_season.proofs.season.Goals as goal

pub returns-in_err-season_verdict : goal.returns-in_err-season_verdict
returns-in_err-season_verdict c =
    let why = c.in_err-season_verdict.field-0.0 in
    let p = err_from_is_err_and c.from_residual.result c.from_residual.ensures.1 in
    rw (p.1, p.2) (ap (λ ws. (most_sheets, ws)) (season-refused c.args.s.now why c.in_err-season_verdict.ensures))

pub count_season-requires : goal.count_season-requires
count_season-requires c =
    let accepted = season-accepted c.args.s.now c.in_ok-season_verdict.ensures in
    (accepted.0.few, accepted.0.within)

pub returns : goal.returns
returns c =
    let accepted = season-accepted c.args.s.now c.in_ok-season_verdict.ensures in
    c.count_season.ensures ∙ ap (λ ws. (most_sheets, ws)) accepted.1
