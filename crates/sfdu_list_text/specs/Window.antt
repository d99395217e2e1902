-- What the program finds in its window onto the stream is what it would find in the whole stream, however the stream goes on. Assumes nothing.
use Rattle.std.specs.Prelude.{ℕ, ◌+◌, ◌/◌, Bool, false, List, [], ◌∷◌}
use Rattle.refusals.specs.Judge.{answered}
use Rattle.sfdu.specs.Read.{is_count}
use Rattle.streaming.specs.Listing.{Listing}
use Rattle.sfdu_list_text.specs.Text.{heading, most_last}
use Rattle.sfdu_list_text.specs.Listing.{buffer_size, list_rules, lines_from}

-- ---- the record at the start of s, which is the window from a place on

-- Refusals 1 and 6, which count the bytes that are there, hold only if the stream ends with the window and so cuts a record off.
abbrev pub gives_count : List ℕ → Bool
gives_count [] = false
gives_count (n ∷ rest) = is_count n

unfoldable pub cut_short : List ℕ → Bool
cut_short s = gives_count (answered (list_rules s) [])

-- ---- the listing, piece by piece

-- How many bytes the text of one window has at most: a third of the window's, because a record has at least 120 bytes and its line at most 40; and
-- the last line.
abbrev pub most_text : ℕ
most_text = buffer_size / 3 + 1 + most_last

abbrev pub of_streams : Listing
of_streams =
    record { heading = heading; lines_from = lines_from; cut_short = cut_short; window_size = buffer_size; most_text = most_text }
