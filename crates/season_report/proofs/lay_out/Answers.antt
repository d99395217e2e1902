-- `season_report::lay_out` meets its contract: the season's answer, and the page of its report. Assumes nothing.
use Prim.Native.Nat.{ℕ}
use native.Mathlib.Omega.{arith}
use mathlib.Core.List.{List}
use mathlib.Core.Path.{◌≡◌, refl, ap, ◌∙◌}
use lib.ListN.{get_or}
use Rattle.refusals.specs.Table.{number_of}
use Rattle.refusals.proofs.Laws.{number-positive}
use Rattle.ledger_season.specs.Season.{season}
use Rattle.std.proofs.lemmas.Result.{err_from_is_err_and}
use Rattle.season_report.proofs.Sheets.{only-twice}
use Rattle.season_report.proofs.lay_out.Goals as goal

pub returns : goal.returns
returns c =
    record {
      report = _;
      answers = c.in_ok-report.ensures;
      puts = c.lay_out.ensures.puts;
      room = omega (arith, c.lay_out.ensures.upper_bound, c.requires.0.room);
    }

pub returns-in_err-report : goal.returns-in_err-report
returns-in_err-report c =
    let p = err_from_is_err_and c.from_residual.result c.from_residual.ensures.1 in
    let number : number_of c.in_err-report.field-0.0 ≡ get_or (season c.args.sheets.now) 0 0 =
    ap (λ (p : ℕ × List ℕ). get_or p.1 0 0) c.in_err-report.ensures in
    let ready = c.requires.0 in
    rw p.1
    (record {
      twice =
          only-twice c.args.sheets.now c.args.files.count ready.named.few ready.whole c.requires.1
          (λ e. number-positive c.in_err-report.field-0.0 (number ∙ e));
      kept = refl;
    })
