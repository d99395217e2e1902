-- What the turns of a listing program keep true. No contract can say what the system reads or writes. These definitions say what the buffers hold, and
-- that each turn continues the run that it was given. Assumes nothing.
use Rattle.std.specs.Prelude.{ℕ, ◌+◌, ◌≤◌, ◌<◌, Bool, true, false, List, ◌++◌, ◌⊎◌, ◌≡◌, length, take, Result, Err}
use Rattle.streaming.specs.declared.State.{State}
use Rattle.streaming.specs.declared.system.Failure.{Failure}
use Rattle.streaming.specs.Failure.{says_failed}
use Rattle.streaming.specs.Listing.{Listing}
use Rattle.streaming.specs.Run.{Run}

-- The length of the text's buffer.
abbrev pub text_size : ℕ
text_size = 65536

-- How many turns a loop has at most: 2^47.
abbrev pub most_turns : ℕ
most_turns = 140737488355328

-- A run has reached this state, with these buffers.
abbrev pub Stands : Listing → (read : List ℕ) (ended : Bool) (written w out : List ℕ) → State → Type 0
Stands l read ended written w out s = Run l read ended written s (take s.have w) (take s.text out)

-- From one state to a later one. Between them `piece` was read and `wrote` was written: any run that had reached the first state has, with these,
-- reached the second. The text in the buffer at the first state is written or still in the buffer at the second, in its order, with `laid` behind it.
pub record Onward (l : Listing) (w out : List ℕ) (s : State) (w' out' : List ℕ) (r : State) : Type 0 where
  pub piece : List ℕ
  pub wrote : List ℕ
  pub laid : List ℕ
  pub stands : (read : List ℕ) (ended : Bool) (written : List ℕ) → Stands l read ended written w out s
      → (ended' : Bool) × Stands l (read ++ piece) ended' (written ++ wrote) w' out' r
  pub grows : wrote ++ take r.text out' ≡ take s.text out ++ laid

-- A turn, from one state to another, and what the system said of its last read or write: a piece is read, to which the reader answered `heard`, and
-- listed; text may be written. If the read failed, nothing is done. If nothing failed and the listing goes on, at least one byte was read, and the next
-- turn can follow.
pub record Turns (l : Listing) (w out : List ℕ) (s : State) (w' out' : List ℕ) (r : State) (said : Result (Unit {0}) Failure) : Type 0 where
  pub onward : Onward l w out s w' out' r
  pub heard : Result ℕ Failure
  pub fails : (why : Failure) → heard ≡ Err why → (said ≡ Err why) × (r ≡ s)
  pub text : r.text ≤ length out'
  pub next : says_failed said ≡ false → r.done ≡ false
      → (0 < length onward.piece) × (r.have < l.window_size) × (r.text + l.most_text ≤ text_size)
  pub far : r.place ≤ s.place + l.window_size

-- A listing ends: it is done, or a read or a write failed, or there were 2^47 turns, each with at least one byte.
abbrev pub IsOver : (read : List ℕ) → State → Result (Unit {0}) Failure → Type 0
IsOver read r said = says_failed said ≡ false → (r.done ≡ true) ⊎ (most_turns ≤ length read)

-- A listing that ends, from a state on.
pub record Ends (l : Listing) (w out : List ℕ) (s : State) (w' out' : List ℕ) (r : State) (said : Result (Unit {0}) Failure) : Type 0 where
  pub onward : Onward l w out s w' out' r
  pub text : r.text ≤ length out'
  pub over : IsOver onward.piece r said

-- A listing that ends, from its beginning.
pub record EndsWhole (l : Listing) (w out : List ℕ) (r : State) (said : Result (Unit {0}) Failure) : Type 0 where
  pub read : List ℕ
  pub ended : Bool
  pub written : List ℕ
  pub stands : Stands l read ended written w out r
  pub text : r.text ≤ length out
  pub over : IsOver read r said
