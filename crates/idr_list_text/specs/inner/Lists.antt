-- What listing one record writes, and what listing one more piece of the tape requires. Assumes nothing.
use Rattle.std.specs.Prelude.{ℕ, ◌+◌, ◌≤◌, ◌<◌, ◌^◌, not, List, ◌≡◌, length, Option, Some, None}
use Rattle.refusals.specs.Table.{number_of}
use Rattle.refusals.specs.declared.Refusal.{Refusal}
use Rattle.text.specs.Text.{Puts}
use Rattle.streaming.specs.declared.State.{State}
use Rattle.idr.specs.Words.{record_size}
use Rattle.idr.specs.Read.{accepts}
use Rattle.idr_list_text.specs.declared.Listed.{Listed}
use Rattle.idr_list_text.specs.Text.{most_line}
use Rattle.idr_list_text.specs.Listing.{line_of}

-- The stop number; 0 at the tape's end.
abbrev pub number_told : Option Refusal → ℕ
number_told None = 0
number_told (Some r) = number_of r

-- `list_record` writes the line of r, which is what stands at the place. The listing goes on if r is an accepted record.
pub record ListsOne (r : List ℕ) (place : ℕ) (old new : List ℕ) (at : ℕ) (l : Listed) : Type 0 where
  pub puts : Puts old new at l.end (line_of place r)
  pub goes : l.done ≡ not (accepts r)

-- The window and the text's buffer have room, and the place does not wrap.
pub record Ready (w out : List ℕ) (s : State) (got : ℕ) : Type 0 where
  pub window : length w ≤ record_size
  pub held : s.have + got ≤ length w
  pub room : s.have < record_size
  pub text : s.text + most_line ≤ length out
  pub place : s.place + record_size < 2 ^ 64
