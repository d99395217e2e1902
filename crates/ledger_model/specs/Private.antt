-- Request 09, "What I haven't saved is mine": nobody else sees the ticks and unticks that a desk never saves. The desk's own question how many they
-- are is left out together with them. Assumes nothing.
use Rattle.std.specs.Prelude.{◌≡◌, ℕ, Bool, true, false, not, ◌≢◌, List, [], ◌∷◌, ◌++◌, ◌==◌}
use Rattle.ledger_model.specs.Lists.{filtered}
use Rattle.ledger_model.specs.Positions.{Positions}
use Rattle.ledger_model.specs.Book.{Book, fresh, desk, with_worked}
use Rattle.ledger_model.specs.Step.{Find, RowReport, FirstGap, RowStream, DeskState, Unsaved}
use Rattle.ledger_model.specs.Step.{Call, Enrol, Ask, Open, Mark, Save, Drop, Strike, gave, done, at_row, Entry, ◌⇒◌, call_of, Run, run}

-- Whether a call is a save by desk d, accepted or not.
unfoldable pub saves : (d : ℕ) → Call → Bool
saves d (Enrol key first) = false
saves d (Ask q) = false
saves d (Open e r) = false
saves d (Mark flag e n) = false
saves d (Save e) = e == d
saves d (Drop e) = false
saves d (Strike r) = false

abbrev pub NoSave : (d : ℕ) → List Call → Type 0
NoSave d calls = filtered (saves d) calls ≡ []

-- Desk d's own calls: its ticks and unticks, and its question how many of them are not saved.
unfoldable pub is_own : (d : ℕ) → Call → Bool
is_own d (Enrol key first) = false
is_own d (Ask (Find key)) = false
is_own d (Ask (RowReport r)) = false
is_own d (Ask FirstGap) = false
is_own d (Ask (RowStream r)) = false
is_own d (Ask (DeskState e)) = false
is_own d (Ask (Unsaved e)) = e == d
is_own d (Open e r) = false
is_own d (Mark flag e n) = e == d
is_own d (Save e) = false
is_own d (Drop e) = false
is_own d (Strike r) = false

-- A list of calls without desk d's own calls; and a log without them.
abbrev pub without_own : (d : ℕ) → List Call → List Call
without_own d calls = filtered (λ c. not (is_own d c)) calls

abbrev pub without_own_log : (d : ℕ) → List Entry → List Entry
without_own_log d log = filtered (λ e. not (is_own d (call_of e))) log

-- Two lists of calls that differ only in desk d's own calls, and in which desk d makes no save.
pub record SameBut (d : ℕ) (xs ys : List Call) : Type 0 where
  pub others_same : without_own d xs ≡ without_own d ys
  pub no_save_left : NoSave d xs
  pub no_save_right : NoSave d ys

-- Two books that differ at most in desk d's worked set.
pub record Alike (d : ℕ) (b c : Book) : Type 0 where
  pub places_same : b.places ≡ c.places
  pub desks_same : (e : ℕ) → e ≢ d → desk b e ≡ desk c e
  pub own_same : (s : Positions) → with_worked s (desk b d) ≡ with_worked s (desk c d)

-- Two runs whose other calls get the same answers, and whose books differ at most in desk d's worked set. The other calls are all calls of other
-- desks, enrolments, finds, row reports, first gaps, streams of rows, states of all desks, strikes (request 10), and desk d's own opens and drops.
pub record Private (d : ℕ) (left right : Run) : Type 0 where
  pub answers-same : without_own_log d left.log ≡ without_own_log d right.log
  pub books-alike : Alike d left.book right.book

abbrev pub Privacy : Type 0
Privacy = (d : ℕ) (xs ys : List Call) → SameBut d xs ys → Private d (run fresh xs) (run fresh ys)

-- The law needs that desk d makes no save. Here is a list of calls in which desk 0 saves, and the answers of its other calls.
abbrev pub shown : (ticks : List Call) → List Call
shown ticks = Enrol 7 1 ∷ Open 0 0 ∷ (ticks ++ Save 0 ∷ Ask (RowReport 0) ∷ [])

abbrev pub seen : (ticked : ℕ) → List Entry
seen ticked = (Enrol 7 1 ⇒ at_row 0) ∷ (Open 0 0 ⇒ done) ∷ (Save 0 ⇒ done) ∷ (Ask (RowReport 0) ⇒ gave (ticked ∷ 0 ∷ [])) ∷ []

-- With one tick and with none, the other calls are the same, but the row report differs.
abbrev pub SaveShows : Type 0
SaveShows =
    (without_own 0 (shown (Mark true 0 1 ∷ [])) ≡ without_own 0 (shown []))
    × (without_own_log 0 (run fresh (shown (Mark true 0 1 ∷ []))).log ≡ seen 1)
    × (without_own_log 0 (run fresh (shown [])).log ≡ seen 0)
