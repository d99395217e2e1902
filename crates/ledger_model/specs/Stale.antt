-- A desk's last accepted open in a log, and why a save is stale: another desk's accepted save of the row stands between that open and this save.
-- Assumes nothing.
use Rattle.std.specs.Prelude.{◌≡◌, ℕ, true, cond, ◌&&◌, ◌≢◌, List, [], ◌∷◌, ◌++◌, ◌==◌}
use Rattle.std.proofs.Math.Option.{Option, none, some}
use Rattle.ledger_model.specs.Step.{Enrol, Ask, Open, Mark, Save, Drop, Strike, Answer, done, accepted, Entry, ◌⇒◌}

-- The row that an entry opens at desk d, if it is an accepted open of that desk.
unfoldable pub opened_by : ℕ → Entry → Option ℕ
opened_by d (Enrol key first ⇒ a) = none
opened_by d (Ask q ⇒ a) = none
opened_by d (Open e r ⇒ a) = cond (accepted a && e == d) (some r) none
opened_by d (Mark flag e n ⇒ a) = none
opened_by d (Save e ⇒ a) = none
opened_by d (Drop e ⇒ a) = none
opened_by d (Strike r ⇒ a) = none

abbrev pub later : Option ℕ → Option ℕ → Option ℕ
later o none = o
later o (some r) = some r

-- The row of desk d's last accepted open in a log.
unfoldable pub last_opened : ℕ → List Entry → Option ℕ
last_opened d [] = none
last_opened d (e ∷ log) = later (opened_by d e) (last_opened d log)

-- Where that open stands: desk d opened row r, and has opened nothing since.
pub record LastOpen (log : List Entry) (d r : ℕ) : Type 0 where
  pub before : List Entry
  pub since : List Entry
  pub answer : Answer
  pub split : log ≡ before ++ (Open d r ⇒ answer) ∷ since
  pub was_accepted : accepted answer ≡ true
  pub not_since : last_opened d since ≡ none

-- In the log, desk d opened row r; then another desk that had opened row r saved it; and desk d has opened nothing since.
pub record Overtaken (log : List Entry) (d r : ℕ) : Type 0 where
  pub before : List Entry
  pub since : List Entry
  pub other : ℕ
  pub split : log ≡ before ++ (Save other ⇒ done) ∷ since
  pub is_other : other ≢ d
  pub saved_row : last_opened other before ≡ some r
  pub had_opened : last_opened d before ≡ some r
  pub not_since : last_opened d since ≡ none
