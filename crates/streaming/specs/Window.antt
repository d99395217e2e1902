-- A program's window onto a stream of records, and why a stream stops at a record. Document 01, "The program" and refusal 17. Assumes
-- nothing.
-- The manual, docs/INTERFACE.md: "The listing program", "Samples".
use Rattle.std.specs.Prelude.{ℕ, Bool, false, cond, ◌&&◌, List, [], ◌∷◌, eqb, ltb, leb, length, get_or}
use Rattle.refusals.specs.Judge.{Rule, ◌when◌}
use Rattle.sfdu.specs.Nesting.{label_size}
use Rattle.sfdu.specs.Read.{record_length, in_stream}

-- The bytes of the window: the longest record that a program takes.
abbrev pub window_size : ℕ
window_size = 65536

-- 17, which no number goes with: a record that the window cannot hold. It is judged next after 5, and so before 6.
abbrev pub over_rule : List ℕ → Rule (List ℕ)
over_rule s = (17 ∷ []) when ltb window_size (record_length s)

-- ---- by the refusal that a reader gives in words: its number, and the number that goes with it where one does

-- The label, where it is there, says that the record is longer than the window.
abbrev pub is_long : List ℕ → Bool
is_long s = leb label_size (length s) && ltb window_size (record_length s)

-- A record is cut off (6, with a count) and too long: 17, however many bytes of the record were there.
abbrev pub is_over : (s refusal : List ℕ) → Bool
is_over s (number ∷ count ∷ rest) = eqb number 6 && is_long s
is_over s (number ∷ []) = false
is_over s [] = false

-- What is told of a stop: the refusal's number, and the number beside it.
pub record Told : Type 0 where
  pub number : ℕ
  pub beside : ℕ

-- These words told, 0 for the second where there is none.
abbrev pub telling : List ℕ → Told
telling words = record { number = get_or words 0 0; beside = get_or words 1 0 }

-- Of such a record 17, with 0. Else the refusal's number; the count of bytes that goes with 1 and 6 stays, and an offset is counted from
-- the stream's start (`in_stream`).
unfoldable pub stop_of : (place : ℕ) (s refusal : List ℕ) → Told
stop_of place s refusal = cond (is_over s refusal) (record { number = 17; beside = 0 }) (telling (in_stream place refusal))
