-- The season's laws hold of the function's contract: `season` requires nothing of a caller, and promises what they use. `a` is the arguments, r the
-- answer. Assumes nothing.
use mathlib.Core.List.{List}
use mathlib.Core.Path.{◌≡◌}
use Prim.Native.Nat.{ℕ}
use Rattle.laws.proofs.Keeps.{Keeps}
use Rattle.ledger_model.specs.Step.{Entry}
use Rattle.ledger_season.specs.Season as Season
use Rattle.ledger_season.specs.Laws.{Laws}
use Rattle.ledger_season.specs.Identity.{Grown, laid_in_one, Identity}
use Rattle.ledger_season.proofs.Laws.{laws}
use Rattle.ledger_season.proofs.Identity.{season-identity}
use Rattle.ledger_season.proofs.season.Reads as season
use Rattle.ledger_season.proofs.season.Kinds as kinds

pub season-keeps : Keeps 1 kinds.ps kinds.r season.Asked season.Learnt
    (λ κs a r e.
    Season.Answers (Season.season a.0.now) r × Laws a.0.now r
    × ((logs : List (List Entry)) (sheets : List (List ℕ)) → Grown logs sheets → a.0.now ≡ laid_in_one sheets → Identity logs sheets r))
season-keeps =
    record {
      asks_nothing = λ κs a. tt;
      gives = λ κs a r e fits h. (h, laws a.0.now r h, λ logs sheets grown is. season-identity logs sheets grown r (rw is at h));
    }
