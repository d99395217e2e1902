-- The serial history of a log, which document 01 calls the "tidy list": the accepted enrolments, strikes and saves in their order, each save right
-- after its transaction (document 01's "visit"), as if the desks had taken turns. Assumes nothing.
use Rattle.std.specs.Prelude.{ℕ, Bool, false, cond, ◌&&◌, List, [], ◌∷◌, ◌++◌, ◌==◌}
use Rattle.ledger_model.specs.Lists.{filtered}
use Rattle.ledger_model.specs.Step.{Call, Enrol, Ask, Open, Mark, Save, Drop, Strike, accepted, Entry, ◌⇒◌, call_of}

-- Desk d's transaction t, after one more entry of the log. An accepted open of the desk begins a new transaction. A tick or untick of the desk, also
-- a refused one, is added to it.
unfoldable pub noted : ℕ → List Entry → Entry → List Entry
noted d t (Enrol key first ⇒ a) = t
noted d t (Ask q ⇒ a) = t
noted d t (Open e r ⇒ a) = cond (accepted a && e == d) ((Open e r ⇒ a) ∷ []) t
noted d t (Mark flag e n ⇒ a) = cond (e == d) (t ++ (Mark flag e n ⇒ a) ∷ []) t
noted d t (Save e ⇒ a) = t
noted d t (Drop e ⇒ a) = t
noted d t (Strike r ⇒ a) = t

unfoldable pub transaction_from : ℕ → List Entry → List Entry → List Entry
transaction_from d t [] = t
transaction_from d t (e ∷ log) = transaction_from d (noted d t e) log

-- Desk d's transaction at the end of a log: its last accepted open, and its ticks and unticks since.
abbrev pub transaction : ℕ → List Entry → List Entry
transaction d log = transaction_from d [] log

-- Whether a call is a tick or untick of desk d.
unfoldable pub marks : (d : ℕ) → Call → Bool
marks d (Enrol key first) = false
marks d (Ask q) = false
marks d (Open e r) = false
marks d (Mark flag e n) = e == d
marks d (Save e) = false
marks d (Drop e) = false
marks d (Strike r) = false

-- Desk d's ticks and unticks in a log, also the refused ones.
abbrev pub marks_of : (d : ℕ) → List Entry → List Entry
marks_of d log = filtered (λ e. marks d (call_of e)) log

-- What an entry adds to the serial history; `past` is the log before the entry.
unfoldable pub kept : List Entry → Entry → List Entry
kept past (Enrol key first ⇒ a) = cond (accepted a) ((Enrol key first ⇒ a) ∷ []) []
kept past (Ask q ⇒ a) = []
kept past (Open d r ⇒ a) = []
kept past (Mark flag d n ⇒ a) = []
kept past (Save d ⇒ a) = cond (accepted a) (transaction d past ++ (Save d ⇒ a) ∷ []) []
kept past (Drop d ⇒ a) = []
kept past (Strike r ⇒ a) = cond (accepted a) ((Strike r ⇒ a) ∷ []) []

unfoldable pub serial_from : List Entry → List Entry → List Entry
serial_from past [] = []
serial_from past (e ∷ log) = kept past e ++ serial_from (past ++ e ∷ []) log

abbrev pub serial : List Entry → List Entry
serial log = serial_from [] log

-- The accepted enrolments, strikes and saves of a log, in their order.
unfoldable pub is_result : Entry → Bool
is_result (Enrol key first ⇒ a) = accepted a
is_result (Ask q ⇒ a) = false
is_result (Open d r ⇒ a) = false
is_result (Mark flag d n ⇒ a) = false
is_result (Save d ⇒ a) = accepted a
is_result (Drop d ⇒ a) = false
is_result (Strike r ⇒ a) = accepted a

abbrev pub results : List Entry → List Entry
results log = filtered is_result log
