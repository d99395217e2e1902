-- The promise of the program: the text that all turns write is the listing of the whole tape, in whatever pieces it is read. Assumes nothing.
-- The manual, docs/INTERFACE.md: "Medium band tapes".
use Rattle.std.specs.Prelude.{ℕ, Bool, List, length, ltb}
use Rattle.streaming.specs.Listing.{Listing}
use Rattle.streaming.specs.Run as streaming
use Rattle.idr.specs.Words.{record_size}
use Rattle.idr_list_text.specs.Text.{heading, most_line}
use Rattle.idr_list_text.specs.Listing.{lines_from}

-- Whether the held bytes are less than a record: these are listed only at the tape's end.
abbrev pub cut_short : List ℕ → Bool
cut_short held = ltb (length held) record_size

-- What the program writes for a tape: the first line, and the lines from place 0 on.
abbrev pub of_tapes : Listing
of_tapes =
    record { heading = heading; lines_from = lines_from; cut_short = cut_short; window_size = record_size; most_text = most_line }

abbrev pub Promise : Type 0
Promise = streaming.Promise of_tapes
