-- The listing of a whole stream. Document 01, "The program", "Walk" and refusal 17; document 02, Req 05. Assumes nothing.
-- The manual, docs/INTERFACE.md: "The listing program".
use Rattle.std.specs.Prelude.{ℕ, List, [], ◌∷◌, ◌++◌}
use Rattle.refusals.specs.Judge.{Rule}
use Rattle.sfdu.specs.Read.{kind_of, label_rules, range_rule, cut_rule, header_rules, data_rules}
use Rattle.streaming.specs.Window.{window_size, over_rule}
use Rattle.sfdu_stream.specs.declared.Entry.{Entry}
use Rattle.sfdu_stream.specs.Listing.{Listing as Walk, walk_by}
use Rattle.sfdu_list_text.specs.Text.{heading, line, last_line}

-- The length of the program's buffer.
abbrev pub buffer_size : ℕ
buffer_size = window_size

-- ---- the record at the start of s, which is the rest of a stream

-- The rules of read one, with 17 right after 5.
abbrev pub list_rules : List ℕ → List (Rule (List ℕ))
list_rules s =
    label_rules s ++ (range_rule (kind_of s) s ∷ over_rule s ∷ cut_rule s ∷ []) ++ header_rules (kind_of s) s ++ data_rules (kind_of s) s

-- The stop number and its second number; 0 if it has none.
abbrev pub or_zero : List ℕ → List ℕ
or_zero [] = []
or_zero (n ∷ []) = n ∷ 0 ∷ []
or_zero (n ∷ m ∷ rest) = n ∷ m ∷ rest

-- ---- the text

-- A record's line.
abbrev pub line_of : Entry → List ℕ
line_of e = line e.place e.length e.kind e.number

unfoldable pub lines_of : List Entry → List ℕ
lines_of [] = []
lines_of (e ∷ es) = line_of e ++ lines_of es

-- One line for each record of a walk, and the last line: the stop place, the stop number and its second number.
unfoldable pub text_of : Walk → List ℕ
text_of w = lines_of w.entries ++ last_line w.stop (or_zero w.why)

-- The text of the walk from a place on, by the program's rules. s is the stream from there on.
unfoldable pub lines_from : (place : ℕ) → List ℕ → List ℕ
lines_from place s = text_of (walk_by list_rules place s)

-- The text that the program writes for a stream.
unfoldable pub listing : List ℕ → List ℕ
listing s = heading ++ lines_from 0 s
