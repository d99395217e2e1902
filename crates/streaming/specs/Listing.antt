-- A listing program reads its input piece by piece, and writes text. Each program defines its text (`Listing`); these definitions say for all of them
-- what one more piece does. Assumes nothing.
use Rattle.std.specs.Prelude.{ℕ, ◌+◌, ◌-◌, ◌≤◌, ◌<◌, Bool, true, false, cond, List, [], ◌++◌, ◌≡◌, length, take, eqb}
use Rattle.octets.specs.Octets.{part, put}
use Rattle.text.specs.Text.{Puts}
use Rattle.streaming.specs.declared.State.{State}

-- The first line; the text from a place on, for the rest s of the input; whether held bytes cannot be listed before more are read; the length of the
-- window, which is the buffer that is read into; and the most text of a window.
pub record Listing : Type 0 where
  pub heading : List ℕ
  pub lines_from : (place : ℕ) → List ℕ → List ℕ
  pub cut_short : List ℕ → Bool
  pub window_size : ℕ
  pub most_text : ℕ

-- The text of a whole input.
abbrev pub listing : Listing → List ℕ → List ℕ
listing l s = l.heading ++ l.lines_from 0 s

-- The text that is still to come, unless the listing is done.
abbrev pub unless : Bool → List ℕ → List ℕ
unless done t = cond done [] t

-- The input may go on, but not past its end.
abbrev pub GoesOn : (last : Bool) → List ℕ → Type 0
GoesOn last more = last ≡ true → more ≡ []

-- `got` bytes were read into the window w; 0 at the input's end. These and the bytes before them are listed; t is their text. The bytes that are left
-- stand at the window's start.
pub record Lists (l : Listing) (w out : List ℕ) (s : State) (got : ℕ) (w' out' : List ℕ) (r : State) : Type 0 where
  pub t : List ℕ
  pub puts : Puts out out' s.text r.text t
  pub says : (more : List ℕ) → GoesOn (eqb got 0) more
      → l.lines_from s.place (take (s.have + got) w ++ more) ≡ t ++ unless r.done (l.lines_from r.place (take r.have w' ++ more))
  -- what is left is moved to the window's start, and no byte is lost
  pub rest : w' ≡ put w 0 (part w (s.have + got - r.have) r.have)
  pub count : r.place + r.have ≡ s.place + s.have + got
  pub within : r.text ≤ length out'
  -- if the listing goes on, nothing is left that could be listed, the input has not ended, and the window has room
  pub wants : r.done ≡ false → l.cut_short (take r.have w') ≡ true
  pub room : r.done ≡ false → (0 < got) × (r.have < l.window_size)
