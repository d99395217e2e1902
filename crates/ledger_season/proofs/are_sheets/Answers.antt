-- `are_sheets` meets its contract. Assumes nothing.
use native.Mathlib.Omega.{arith}
use Rattle.std.proofs.Common.{◌≡◌, refl, true, false, rules}
use Rattle.std.proofs.lemmas.Iterator.{cases_from_all, YieldsList-from_range}
use Rattle.ledger_sheet.specs.Sheet.{right}
use Rattle.ledger_layout.proofs.Scans.{all-range}
use Rattle.ledger_season.specs.Season.{sheet_at, right_to}
use Rattle.ledger_season.proofs.are_sheets.Goals as goal

pub returns : goal.returns
unfolding right_to
returns c =
    let s = c.args.s.now in
    let n = c.args.n in
    all-range n (λ k. right (sheet_at s k)) _
    (cases_from_all _ _ _ (λ k. right (sheet_at s k) ≡ true) (λ k. right (sheet_at s k) ≡ false) c.all.ensures.ran
    (YieldsList-from_range 0 n n refl (omega arith)) (λ x q k. search rules) (λ x q k. search rules))
