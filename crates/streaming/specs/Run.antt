-- A run of a listing program over one input, and its promise: the text that all turns write is the listing of the whole input, in whatever pieces it is
-- read. Assumes nothing.
use Rattle.std.specs.Prelude.{ℕ, ◌+◌, Bool, true, false, List, [], ◌++◌, ◌≡◌, length, take, eqb}
use Rattle.streaming.specs.declared.State.{State}
use Rattle.streaming.specs.State.{emptied}
use Rattle.streaming.specs.Listing.{Listing, listing, GoesOn, Lists}

-- Nothing read, and the first line laid out.
abbrev pub begun : Listing → State
begun l = record { place = 0; have = 0; text = length l.heading; done = false }

-- Where a run can stand: what was read and whether that was all, what was written, the state, the bytes that the window holds and
-- the text that is laid out.
pub data Run (l : Listing) : (read : List ℕ) (ended : Bool) (written : List ℕ) → State → (held text : List ℕ) → Type 0 where
  begins : Run l [] false [] (begun l) [] l.heading
  -- A piece of the input, which is empty at its end, is read behind the bytes in the window, and is listed.
  lists : {read : List ℕ} {ended : Bool} {written : List ℕ} {s : State} {held text : List ℕ} → Run l read ended written s held text
      → s.done ≡ false → (piece w out w' out' : List ℕ) (r : State)
      → take (s.have + length piece) w ≡ held ++ piece → take s.text out ≡ text → Lists l w out s (length piece) w' out' r
      → Run l (read ++ piece) (eqb (length piece) 0) written r (take r.have w') (take r.text out')
  -- The text is written.
  writes : {read : List ℕ} {ended : Bool} {written : List ℕ} {s : State} {held text : List ℕ} → Run l read ended written s held text
      → Run l read ended (written ++ text) (emptied s) held []

-- Once the listing is done and its text written, that text is the listing of the input, however the input goes on behind what was read.
abbrev pub Promise : Listing → Type 0
Promise l =
    (read : List ℕ) (ended : Bool) (written : List ℕ) (s : State) (held : List ℕ) → Run l read ended written s held [] → s.done ≡ true
    → (more : List ℕ) → GoesOn ended more → listing l (read ++ more) ≡ written
