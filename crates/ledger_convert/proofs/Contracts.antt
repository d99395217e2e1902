-- The converter's theorem holds of the function's contract: `convert` requires nothing of a caller, and promises what the theorem uses. `a` is the
-- arguments, old and new, r the answer, e the same at exit. Assumes nothing.
use mathlib.Core.List.{[], ◌∷◌}
use mathlib.Core.Path.{◌≡◌}
use Rattle.laws.proofs.Keeps.{Keeps}
use Rattle.ledger_sheet.specs.Words.{answer_words}
use Rattle.ledger_convert.specs.Convert.{convert_on}
use Rattle.ledger_convert.specs.Laws.{AnswersAsBefore}
use Rattle.ledger_convert.proofs.Laws.{converted-answers}
use Rattle.ledger_convert.proofs.convert.Reads as convert
use Rattle.ledger_convert.proofs.convert.Kinds as kinds

pub convert-keeps : Keeps 2 kinds.ps kinds.r convert.Asked convert.Learnt
    (λ κs a r e.
    ((answer_words r, e.1.0.now) ≡ convert_on a.0.now a.1.0.now) × (answer_words r ≡ 0 ∷ [] → AnswersAsBefore a.0.now e.1.0.now))
convert-keeps =
    record {
      asks_nothing = λ κs a. tt;
      gives = λ κs a r e fits h. (h, λ done. converted-answers a.0.now a.1.0.now e.1.0.now (rw done at h));
    }
