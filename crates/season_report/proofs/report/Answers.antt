-- `season_report::report` is safe: the sheets that are told of are those that were loaded. Assumes nothing.
use Prim.Native.Nat.{◌*◌, ◌≤◌}
use native.Mathlib.Omega.{arith}
use mathlib.Core.Path.{sym}
use lib.ListN.{length}
use lib.Seq.{length-take-le}
use Rattle.ledger_sheet.specs.Sheet.{sheet_size}
use Rattle.season_report.proofs.Sheets.{right-first}
use Rattle.season_report.proofs.report.Goals as goal

pub overflow_mul-n : goal.overflow_mul-n
overflow_mul-n c = omega (arith, c.in-Some.ensures.0.few)

pub slice_bounds-sheets-end : goal.slice_bounds-sheets-end
slice_bounds-sheets-end c = omega (arith, c.in-Some.ensures.0.few)

pub slice_bounds-tell-end-2 : goal.slice_bounds-tell-end-2
slice_bounds-tell-end-2 c =
    let loaded = c.in-Some.ensures in
    sym (length-take-le _ _ (omega (arith, loaded.0.few)))

pub tell-requires : goal.tell-requires
tell-requires c =
    let loaded = c.in-Some.ensures in
    let fits : sheet_size * c.in-Some.loaded.files.count ≤ length c.load_all.new.sheets = omega (arith, loaded.0.few) in (
      loaded.0,
      length-take-le _ _ fits,
      right-first c.load_all.new.sheets
          c.in-Some.loaded.files.count fits (λ j l. (loaded.1.each j l).is_right),
    )
