-- What the inner functions of a turn require and keep true. Assumes nothing.
use Rattle.std.specs.Prelude.{ℕ, ◌+◌, ◌*◌, ◌≤◌, ◌<◌, ◌^◌, false, List, ◌⊎◌, ◌≡◌, length, Result, Ok}
use Rattle.streaming.specs.declared.State.{State}
use Rattle.streaming.specs.declared.system.Failure.{Failure}
use Rattle.streaming.specs.State.{emptied}
use Rattle.streaming.specs.Listing.{Listing}
use Rattle.streaming.specs.Turn.{text_size}

-- How much text stays in the buffer at most.
abbrev pub enough : ℕ
enough = 32768

-- The sizes of a listing: there is room for a byte, for the first line and the text of a window, also behind the text
-- that stays in the buffer, and the place stays low.
pub record Sized (l : Listing) : Type 0 where
  pub some : 0 < l.window_size
  pub small : l.window_size ≤ text_size
  pub text : length l.heading + l.most_text ≤ text_size
  pub more : enough + l.most_text ≤ text_size

-- `got` bytes were read into the window. The window and the text's buffer have room, and the place does not overflow.
pub record Ready (l : Listing) (w out : List ℕ) (s : State) (got : ℕ) : Type 0 where
  pub window : length w ≡ l.window_size
  pub held : s.have + got ≤ length w
  pub room : s.have < l.window_size
  pub text : s.text + l.most_text ≤ length out
  pub place : s.place + l.window_size < 2 ^ 64

-- The listing goes on: there is room to read one more byte, the text's buffer has room for the text of another turn, and the place does not overflow.
pub record Going (l : Listing) (w out : List ℕ) (s : State) : Type 0 where
  pub window : length w ≡ l.window_size
  pub buffer : length out ≡ text_size
  pub room : s.have < l.window_size
  pub text : s.text + l.most_text ≤ text_size
  pub place : s.place + l.window_size < 2 ^ 64
  pub on : s.done ≡ false

-- The loop has this many turns left, and the place cannot overflow.
pub record Round (l : Listing) (w out : List ℕ) (s : State) (turns : ℕ) : Type 0 where
  pub going : Going l w out s
  pub low : s.place + l.window_size * turns ≤ 2 ^ 63

-- The text stays in the buffer, or is written.
abbrev pub Writes : State → (r : State) → Result (Unit {0}) Failure → Type 0
Writes s r said = ((s.text ≤ enough) × (r ≡ s) × (said ≡ Ok tt)) ⊎ (r ≡ emptied s)
