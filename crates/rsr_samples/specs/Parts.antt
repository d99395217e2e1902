-- What the program keeps true of a record. No contract can say what the system reads or writes. These definitions say what the program does with the
-- bytes that were read, and which calls made the text that it passed on. Assumes nothing.
-- The manual, docs/INTERFACE.md: "Samples".
use Rattle.std.specs.Prelude.{◌≡◌, ℕ, ◌+◌, ◌≤◌, Bool, cond, ◌≢◌, List, length, take, ℤ, ◌==◌, Result}
use Rattle.sfdu.specs.Nesting.{label_size}
use Rattle.sfdu.specs.Read.{record_length, data_part}
use Rattle.sfdu_samples.specs.Calls.{size_of}
use Rattle.sfdu_samples.specs.Packing.{unpacked}
use Rattle.rsr_samples_text.specs.Part.{Calls}
use Rattle.streaming.specs.declared.system.Failure.{Failure}
use Rattle.streaming.specs.Window.{Told}
use Rattle.streaming.specs.Failure.{says_failed, got_of}
use Rattle.rsr_samples.specs.Judging as J
use Rattle.rsr_samples.specs.Step.{Step}
use Rattle.rsr_samples.specs.Step as S
use Rattle.rsr_samples.specs.Judging.{Unpacked, judging}

-- ---- read

-- The window's first `have` bytes are of one record: none lies behind the end that its label gives.
pub record OfOne (window : List ℕ) (have : ℕ) : Type 0 where
  pub within : have ≤ length window
  pub one : label_size ≤ have → have ≤ record_length (take have window)

-- ---- written

-- Calls, one after the other, have written the numbers of a list up to `upto`, and left the buffer `out`. At the list's end their texts are the
-- list's text: `Promise` of `rsr_samples_text`.
pub record Came (raw : Bool) (zs : List ℤ) (upto : ℕ) (out : List ℕ) : Type 0 where
  pub text : List ℕ
  pub calls : Calls raw zs upto text out

-- The numbers of a record s.
abbrev pub numbers_of : List ℕ → List ℤ
numbers_of s = unpacked (size_of s) (data_part s)

-- ---- what the program does with a record

-- After an accepted record the stream goes on behind it, by its own length, if all its text could be written. Else the stream stops.
abbrev pub step_by : (written : Bool) → (place : ℕ) → (s : List ℕ) → Unpacked → Step
step_by written place s (J.Samples n) = cond written (S.Passed (place + record_length s)) S.Unwritten
step_by written place s (J.Stopped stop) = S.Stopped stop

-- The step for the bytes that were read; there are none at the stream's end.
unfoldable pub step_of : (written : Bool) → (place : ℕ) → Result ℕ Failure → (window : List ℕ) → List ℤ → Step
step_of written place piece window old =
    cond (says_failed piece) S.Unread
    (cond ((got_of piece) == 0) S.Ended (step_by written place (take (got_of piece) window) (judging place (take (got_of piece) window) old).0))

-- Only the system knows whether all text could be written. If the step passed the record, all its samples were laid out.
pub record Takes (raw : Bool) (place : ℕ) (piece : Result ℕ Failure) (window : List ℕ) (old : List ℤ) (out : List ℕ) (r : Step) : Type 0 where
  pub written : Bool
  pub step : r ≡ step_of written place piece window old
  pub came : (next : ℕ) → r ≡ S.Passed next
      → Came raw (numbers_of (take (got_of piece) window)) (length (numbers_of (take (got_of piece) window))) out
  -- and it is never stopped at because the list is too short
  pub never-35 : (stop : Told) → r ≡ S.Stopped stop → stop.number ≢ 35
