-- The claim holds of the functions' contracts: `agreed_gain` requires nothing of a caller, and what the caller learns (`Learnt`, made from its
-- `ensures`) is what the claim uses. `a` is the arguments, sheet and record; r is the answer. Assumes nothing.
use mathlib.Core.Path.{◌≡◌}
use Rattle.laws.proofs.Keeps.{Keeps}
use Rattle.std.specs.Prelude.{Result}
use Rattle.refusals.specs.declared.Refusal.{Refusal}
use Rattle.settings.specs.declared.Agreement.{Agreement}
use Rattle.settings.specs.Words.{asked_words}
use Rattle.sfdu_gain.specs.Agreed.{asked_for, Agrees}
use Rattle.sfdu_gain.proofs.Agreed.{answers_agree}
use Rattle.sfdu_gain.proofs.agreed_gain.Reads as agreed
use Rattle.sfdu_gain.proofs.agreed_gain.Kinds as kinds

pub agreed-gain-keeps : Keeps 2 kinds.ps kinds.r agreed.Asked agreed.Learnt
    (λ κs a r e. (asked : Result Agreement Refusal) → asked_words asked ≡ asked_for a.0.now a.1.0.now → Agrees a.1.0.now asked r)
agreed-gain-keeps = record { asks_nothing = λ κs a. tt; gives = λ κs a r e fits h asked same. answers_agree a.0.now a.1.0.now asked r same h }
