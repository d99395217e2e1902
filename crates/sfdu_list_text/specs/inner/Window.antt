-- What the window's functions find and write. Assumes nothing.
use Rattle.std.specs.Prelude.{ℕ, ◌+◌, ◌≤◌, ◌<◌, ◌^◌, Bool, true, false, not, cond, ◌&&◌, List, ◌++◌, ◌≡◌, length, drop, get_or, Option, Some, None}
use Rattle.text.specs.Text.{Puts}
use Rattle.sfdu.specs.Read.{kind_of, record_length}
use Rattle.sfdu_headers.specs.Fields.{record_number}
use Rattle.sfdu.specs.declared.Kind.{Kind}
use Rattle.refusals.specs.Table.{number_of}
use Rattle.streaming.specs.declared.window.Stop as S
use Rattle.sfdu_list_text.specs.declared.Found.{Found}
use Rattle.sfdu_list_text.specs.declared.Found.TheVariants as F
use Rattle.sfdu_list_text.specs.declared.Drained.{Drained}
use Rattle.streaming.specs.declared.State.{State}
use Rattle.streaming.specs.Listing.{unless, GoesOn}
use Rattle.sfdu_list_text.specs.Listing.{buffer_size, lines_from}
use Rattle.sfdu_list_text.specs.inner.Stops.{whole, stop_words}
use Rattle.sfdu_list_text.specs.Window.{cut_short, most_text}

-- ---- the record at the start of s, which is the window from a place on

-- What is told of what stands there: a record; that the window ends too early to say; or the stop number and the number that goes with it.
pub data Seen : Type 0 where
  Record : (kind : Kind) (size number : ℕ) → Seen
  More : Seen
  Stop : (number beside : ℕ) → Seen

-- The stop number and the number that goes with it, both 0 at the stream's end.
abbrev pub number_told : Option S.Stop → ℕ
number_told None = 0
number_told (Some stop) = number_of stop.refusal

abbrev pub beside_told : Option S.Stop → ℕ
beside_told None = 0
beside_told (Some stop) = stop.beside

abbrev pub seen : Found → Seen
seen (F.Record kind size number) = Record kind size number
seen F.More = More
seen (F.Stop stop) = Stop (number_told stop) (beside_told stop)

-- The stop number and the number that goes with it, as they are told.
abbrev pub stop_found : List ℕ → Seen
stop_found words = Stop (get_or words 0 0) (get_or words 1 0)

-- What the whole stream says of the record; `place` is its place.
unfoldable pub found_at : (place : ℕ) → List ℕ → Seen
found_at place s = cond (whole s) (Record (kind_of s) (record_length s) (record_number (kind_of s) s)) (stop_found (stop_words place s))

-- What the window says, where `last` says that the stream ends with it.
unfoldable pub found_in : (place : ℕ) → List ℕ → (last : Bool) → Seen
found_in place s last = cond (cut_short s && not last) More (found_at place s)

-- ---- text

-- The lines of the window w, whose first byte is at this place: t is the text of its first `used` bytes, with the last line if `done`, however the
-- stream goes on.
pub record Lines (w : List ℕ) (place : ℕ) (last : Bool) (used : ℕ) (done : Bool) (t : List ℕ) : Type 0 where
  pub within : used ≤ length w
  pub says : (more : List ℕ) → GoesOn last more
      → lines_from place (w ++ more) ≡ t ++ unless done (lines_from (place + used) (drop used w ++ more))
  -- the listing goes on only if more of the stream is needed
  pub wants : done ≡ false → (last ≡ false) × (cut_short (drop used w) ≡ true)

pub record Drains (w : List ℕ) (place : ℕ) (last : Bool) (old new : List ℕ) (start : ℕ) (d : Drained) : Type 0 where
  pub t : List ℕ
  pub lines : Lines w place last d.used d.done t
  pub puts : Puts old new start d.end t
  pub within : d.end ≤ length new

-- ---- a piece of the stream is listed

-- The window and the text's buffer have room, and the place does not overflow.
pub record Ready (w out : List ℕ) (s : State) (got : ℕ) : Type 0 where
  pub window : length w ≤ buffer_size
  pub held : s.have + got ≤ length w
  pub text : s.text + most_text ≤ length out
  pub place : s.place + buffer_size < 2 ^ 64
