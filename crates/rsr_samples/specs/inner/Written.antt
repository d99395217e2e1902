-- What the writing functions require and keep true. Assumes nothing.
use Rattle.std.specs.Prelude.{◌≡◌, ℕ, ◌+◌, ◌^◌, ◌<◌, ◌≤◌, Bool, true, cond, List, length, take, ℤ, Result}
use Rattle.rsr_samples_text.specs.inner.Room.{most_number}
use Rattle.streaming.specs.declared.system.Failure.{Failure}
use Rattle.streaming.specs.Failure.{got_of}
use Rattle.streaming.specs.Window.{window_size}
use Rattle.rsr_samples.specs.Step.{Step}
use Rattle.rsr_samples.specs.Step as S
use Rattle.rsr_samples.specs.Judging.{most_numbers}
use Rattle.rsr_samples.specs.Parts.{OfOne, Came}

-- The buffers and the place that `take_record` requires.
pub record Ready (place : ℕ) (piece : Result ℕ Failure) (window : List ℕ) (zs : List ℤ) (out : List ℕ) : Type 0 where
  pub one : OfOne window (got_of piece)
  pub list : length zs ≡ most_numbers
  pub size : length window ≡ window_size
  pub near : place + window_size < 2 ^ 64
  pub room : most_number ≤ length out

-- If all could be written, calls have laid out the whole list.
abbrev pub Ends : Bool → List ℤ → (out : List ℕ) → (written : Bool) → Type 0
Ends raw zs out written = written ≡ true → Came raw zs (length zs) out

-- The same for a list's first n numbers; the step then gives the next place.
pub record Writes (raw : Bool) (zs : List ℤ) (n next : ℕ) (out : List ℕ) (r : Step) : Type 0 where
  pub written : Bool
  pub step : r ≡ cond written (S.Passed next) S.Unwritten
  pub came : written ≡ true → Came raw (take n zs) (length (take n zs)) out
