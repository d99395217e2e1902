-- What the program decides about the bytes s that were read of the record at a place of a stream. Assumes nothing.
-- The manual, docs/INTERFACE.md: "Samples", "The listing program".
use Rattle.std.specs.Prelude.{◌≡◌, ℕ, ◌≤◌, cond, ◌≢◌, List, length, ℤ, ◌==◌, slice_index}
use Rattle.sfdu_samples.specs.Calls.{unpacking}
use Rattle.streaming.specs.Window.{window_size, Told, stop_of}

-- The numbers that the program's list has room for.
abbrev pub most_numbers : ℕ
most_numbers = 524288

-- ---- the record

-- How many numbers are at the list's start; or what is told of the stop.
pub data Unpacked : Type 0 where
  Samples : ℕ → Unpacked
  Stopped : Told → Unpacked

-- The record is accepted exactly if the answer of unpack begins with 0. Behind the 0 is how many numbers there are.
abbrev pub judged_by : (place : ℕ) (s words : List ℕ) → Unpacked
judged_by place s words = cond (slice_index words 0 == 0) (Samples (slice_index words 1)) (Stopped (stop_of place s words))

-- The same, with the list as unpack leaves it.
unfoldable pub judging : (place : ℕ) → List ℕ → List ℤ → Unpacked × List ℤ
judging place s old = (judged_by place s (unpacking s old).0, (unpacking s old).1)

-- Of a record that the window holds, unpack never says 35: the list is long enough for every row of table 3-1.
abbrev pub LongEnough : Type 0
LongEnough = (s : List ℕ) (old : List ℤ) → length s ≤ window_size → length old ≡ most_numbers → slice_index (unpacking s old).0 0 ≢ 35
