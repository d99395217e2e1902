-- Histories of calls and receives, any number in any order. Assumes nothing.
-- The manual, docs/INTERFACE.md: "Calls on the ledger".
use Rattle.std.specs.Prelude.{ℕ, ◌≡◌, List, [], ◌∷◌, ◌++◌, get_or}
use Rattle.refusals.specs.Judge.{judge}
use Rattle.ledger_model.specs.Step.{Call, Answer, Entry, ◌⇒◌, run}
use Rattle.ledger_layout.specs.Layout.{book_of}
use Rattle.ledger.specs.Demand3.{MadeFresh, Promised}
use Rattle.ledger.specs.Private.{History}
use Rattle.ledger_receive.specs.Visits.{unread, arrived, WasReceived}
use Rattle.ledger_receive.specs.Receive.{receive_rules}
use Rattle.ledger_receive.specs.Laws.{handled, calls_of, Accepted, list_after, sheet_after, NotOrderedIn}

-- The calls of a receive, with their answers. A refused receive makes no calls.
unfoldable pub receive_log : (d : ℕ) (stream list s : List ℕ) → List Entry
receive_log d stream list s = judge (λ number. []) (receive_rules d s) (run (book_of s) (calls_of d stream list s)).log

-- Steps made one after the other, from the sheet s to the sheet t. A step is a call that keeps its contract, or a receive. `log` is all calls, also
-- those of the receives.
pub data Steps : (s : List ℕ) (log : List Entry) (t : List ℕ) → Type 0 where
  ended : {s : List ℕ} → Steps s [] s
  called : {s t u : List ℕ} {c : Call} {a : Answer} {log : List Entry} → Promised c s a t → Steps t log u → Steps s ((c ⇒ a) ∷ log) u
  received : {s u : List ℕ} {log : List Entry} (d : ℕ) (stream list : List ℕ)
      → Steps (sheet_after d stream list s) log u → Steps s (receive_log d stream list s ++ log) u

-- Steps from a sheet that `fresh` made are a history: what holds of every history holds of them, demand 3 too.
abbrev pub StepsAreHistory : Type 0
StepsAreHistory = (slice start : List ℕ) → MadeFresh slice start → (log : List Entry) (last : List ℕ) → Steps start log last → History log last

-- Steps from a sheet that `fresh` made to the sheet s; then desk d receives a stream; then steps to the sheet `last`. A record of the stream whose
-- outcome in the list is 0 or 29 is not on the missing list of its row, neither then nor at the end, if no call between takes it out. A call takes it
-- out if it saves the row with the number unticked, or strikes the row.
abbrev pub AnyReceivedIsNotOrdered : Type 0
AnyReceivedIsNotOrdered = (slice start : List ℕ) → MadeFresh slice start → (past : List Entry) (s : List ℕ) → Steps start past s
    → (d : ℕ) (stream list : List ℕ) → Accepted d s
    → (more : List Entry) (last : List ℕ) → Steps (sheet_after d stream list s) more last
    → (i key n : ℕ) → get_or (handled stream list) i unread ≡ arrived key n → WasReceived (get_or (list_after d stream list s) i 12)
    → NotOrderedIn (past ++ receive_log d stream list s) (sheet_after d stream list s) more last key n
