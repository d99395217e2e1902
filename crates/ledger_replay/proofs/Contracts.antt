-- The theorems about replays hold of the function's contract: `replay` requires nothing of a caller, and promises what they use. `a` is the
-- arguments, trace and sheet, r the answer, e the same at exit. Assumes nothing.
use mathlib.Core.List.{[], ◌∷◌}
use mathlib.Core.Path.{◌≡◌, sym, ap, ◌∙◌}
use Rattle.laws.proofs.Keeps.{Keeps}
use Rattle.ledger_replay.specs.Replay.{replayed_words, replay_on}
use Rattle.ledger_replay.specs.Histories.{AsModel}
use Rattle.ledger_replay.proofs.Histories.{same-is-model}
use Rattle.ledger_replay.proofs.replay.Reads as replay
use Rattle.ledger_replay.proofs.replay.Kinds as kinds

-- Where it says 'same', every answer in the trace is the model's.
pub replay-keeps : Keeps 2 kinds.ps kinds.r replay.Asked replay.Learnt
    (λ κs a r e.
    ((replayed_words r, e.1.0.now) ≡ replay_on a.0.now a.1.0.now) × (replayed_words r ≡ 0 ∷ [] → AsModel a.0.now a.1.0.now))
replay-keeps =
    record {
      asks_nothing = λ κs a. tt;
      gives = λ κs a r e fits h. (h, λ same. same-is-model a.0.now a.1.0.now (sym (ap (λ o. o.0) h) ∙ same));
    }
