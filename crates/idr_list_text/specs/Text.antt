-- The lines of a tape's listing (document 02, Req 04). Bytes are ASCII. Assumes nothing.
-- The manual, docs/INTERFACE.md: "Medium band tapes".
use Rattle.std.specs.Prelude.{ℕ, ◌+◌, ◌/◌, ◌%◌, cond, List, [], ◌∷◌, ◌++◌, eqb}
use Rattle.octets.specs.Ascii.{ascii}
use Rattle.text.specs.Text.{space, line_end, numeral}
use Rattle.idr.specs.Words.{word_of, field_of}
use Rattle.idr.specs.Fields.{tagged, day, hour, minute, second, micros, playback, sampling, decimation_of}

unfoldable pub heading : List ℕ
heading = ascii "place tape record spacecraft station day time playback sampling decimation\n"

-- ---- a record

-- The record's place and source.
unfoldable pub origin_text : (place tape number spacecraft station : ℕ) → List ℕ
origin_text place tape number spacecraft station =
    numeral place space ++ numeral tape space ++ numeral number space ++ numeral spacecraft space ++ numeral station space

-- The last decimal digit of n.
abbrev pub glyph : ℕ → ℕ
glyph n = 48 + n % 10

abbrev pub colon : ℕ
colon = 58

abbrev pub point : ℕ
point = 46

-- 04:05:06.000789
unfoldable pub clock : (hour minute second micros : ℕ) → List ℕ
clock hour minute second micros =
    glyph (hour / 10) ∷ glyph hour ∷ colon ∷ glyph (minute / 10) ∷ glyph minute ∷ colon ∷ glyph (second / 10) ∷ glyph second ∷ point
    ∷ glyph (micros / 100000)
    ∷ glyph (micros / 10000)
    ∷ glyph (micros / 1000)
    ∷ glyph (micros / 100)
    ∷ glyph (micros / 10)
    ∷ glyph micros
    ∷ space
    ∷ []

-- When the record was recorded.
unfoldable pub time_text : (day hour minute second micros : ℕ) → List ℕ
time_text day hour minute second micros = numeral day space ++ clock hour minute second micros

-- How the record was reduced.
unfoldable pub reduction_text : (playback sampling decimation : ℕ) → List ℕ
reduction_text playback sampling decimation = numeral playback space ++ numeral sampling space ++ numeral decimation line_end

unfoldable pub untagged_text : List ℕ
untagged_text = ascii "- - - - -\n"

-- The line's start, from the header words w: tape, record number, spacecraft and station.
abbrev pub source : (place : ℕ) → List ℕ → List ℕ
source place w = origin_text place (field_of w 1 9 16) (word_of w 2) (field_of w 4 1 8) (field_of w 4 9 16)

-- The line of a record. If the time tag is valid, the rest comes from words 6 to 12. An example:
-- 0 3 1 32 14 123 04:05:06.000789 75000 300000 1
unfoldable pub line : (place : ℕ) → List ℕ → List ℕ
line place w =
    source place w
    ++ cond (tagged w)
    (time_text (day w) (hour w) (minute w) (second w) (micros w) ++ reduction_text (playback w) (sampling w) (decimation_of (field_of w 12 2 4)))
    untagged_text

-- ---- the last line: where the listing stopped, and why

abbrev pub ended : List ℕ
ended = ascii "end of tape\n"

abbrev pub cut_short : List ℕ
cut_short = ascii "not a whole record\n"

abbrev pub wrong_length : List ℕ
wrong_length = ascii "length word not 2528\n"

abbrev pub wrong_time : List ℕ
wrong_time = ascii "not a time\n"

abbrev pub wrong_rate : List ℕ
wrong_rate = ascii "rate not listed\n"

abbrev pub wrong_block : List ℕ
wrong_block = ascii "block size zero or positive\n"

-- The text of a stop number.
unfoldable pub why : ℕ → List ℕ
why n =
    cond (eqb n 0) ended
    (cond (eqb n 50) cut_short (cond (eqb n 51) wrong_length (cond (eqb n 52) wrong_time (cond (eqb n 53) wrong_rate wrong_block))))

-- 10112 0 end of tape
unfoldable pub last_line : (place number : ℕ) → List ℕ
last_line place number = numeral place space ++ numeral number space ++ why number

abbrev pub most_line : ℕ
most_line = 205
