-- Request 13, the identity: the ticked positions are the ticks less the unticks. Only accepted marks of saved transactions count, on rows that are
-- not struck later. Assumes nothing.
use Rattle.std.specs.Prelude.{◌≡◌, ℕ, ◌+◌, Bool, true, false, cond, ◌&&◌, ◌||◌, List, [], ◌∷◌, ◌++◌, length, ◌==◌}
use Rattle.std.specs.Bool.{beq}
use Rattle.std.proofs.Math.Option.{Option, none, some}
use Rattle.ledger_model.specs.Lists.{filtered}
use Rattle.ledger_model.specs.Positions.{size}
use Rattle.ledger_model.specs.Book.{Place, ticks_of}
use Rattle.ledger_model.specs.Step.{Enrol, Ask, Open, Mark, Save, Drop, Strike, accepted, Entry, ◌⇒◌, book_after}
use Rattle.ledger_model.specs.History.{transaction}
use Rattle.ledger_model.specs.Stale.{last_opened}

-- Whether an entry is an accepted tick (flag true) or untick (flag false); and how many a log has.
unfoldable pub marked : (flag : Bool) → Entry → Bool
marked flag (Enrol key first ⇒ a) = false
marked flag (Ask q ⇒ a) = false
marked flag (Open d r ⇒ a) = false
marked flag (Mark f d n ⇒ a) = beq f flag && accepted a
marked flag (Save d ⇒ a) = false
marked flag (Drop d ⇒ a) = false
marked flag (Strike r ⇒ a) = false

abbrev pub mark_count : (flag : Bool) → List Entry → ℕ
mark_count flag log = length (filtered (marked flag) log)

-- Whether an entry strikes row r; and whether a log has such an entry.
unfoldable pub strikes : (r : ℕ) → Entry → Bool
strikes r (Enrol key first ⇒ a) = false
strikes r (Ask q ⇒ a) = false
strikes r (Open d q ⇒ a) = false
strikes r (Mark flag d n ⇒ a) = false
strikes r (Save d ⇒ a) = false
strikes r (Drop d ⇒ a) = false
strikes r (Strike q ⇒ a) = accepted a && q == r

unfoldable pub struck_in : List Entry → (r : ℕ) → Bool
struck_in [] r = false
struck_in (e ∷ log) r = strikes r e || struck_in log r

-- The count, or 0 if `future` strikes the row.
abbrev pub unless_struck : (future : List Entry) → Option ℕ → ℕ → ℕ
unless_struck future none count = count
unless_struck future (some r) count = cond (struck_in future r) 0 count

-- What an entry counts; `past` is the log before it, `future` the log after it. An accepted save counts the accepted ticks (or unticks) of its
-- transaction, unless the row is struck later.
unfoldable pub counted : (flag : Bool) (past : List Entry) → Entry → (future : List Entry) → ℕ
counted flag past (Enrol key first ⇒ a) future = 0
counted flag past (Ask q ⇒ a) future = 0
counted flag past (Open d r ⇒ a) future = 0
counted flag past (Mark f d n ⇒ a) future = 0
counted flag past (Save d ⇒ a) future = cond (accepted a) (unless_struck future (last_opened d past) (mark_count flag (transaction d past))) 0
counted flag past (Drop d ⇒ a) future = 0
counted flag past (Strike r ⇒ a) future = 0

unfoldable pub saved_from : (flag : Bool) (past log : List Entry) → ℕ
saved_from flag past [] = 0
saved_from flag past (e ∷ log) = counted flag past e log + saved_from flag (past ++ e ∷ []) log

abbrev pub saved_ticks : List Entry → ℕ
saved_ticks log = saved_from true [] log

abbrev pub saved_unticks : List Entry → ℕ
saved_unticks log = saved_from false [] log

-- How many positions are ticked in all places.
unfoldable pub ticked : List Place → ℕ
ticked [] = 0
ticked (p ∷ ps) = size (ticks_of p) + ticked ps

-- The identity for a log and the book after it.
abbrev pub Tallies : List Entry → Type 0
Tallies log = ticked (book_after log).places + saved_unticks log ≡ saved_ticks log
