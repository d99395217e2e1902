-- The outcome of the next record. Assumes nothing.
use Rattle.std.specs.Prelude.{ℕ}
use Rattle.streaming.specs.Window.{Told}

pub data Step : Type 0 where
  -- Its samples are written; the number is the place behind it.
  Passed : (next : ℕ) → Step
  -- There is no record: the input has ended.
  Ended : Step
  Stopped : Told → Step
  -- A read or a write failed.
  Unread : Step
  Unwritten : Step
