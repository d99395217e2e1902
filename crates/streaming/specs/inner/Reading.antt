-- What reading keeps. Assumes nothing.
use Rattle.std.specs.Prelude.{ℕ, ◌+◌, ◌≤◌, List, ◌≡◌, take, Result, Ok, Err}
use Rattle.streaming.specs.declared.FailedRead.{FailedRead}

-- `got` bytes were read behind the first `have`, which are unchanged; at most up to `want`.
pub record Behind (w : List ℕ) (have want : ℕ) (w' : List ℕ) (got : ℕ) : Type 0 where
  pub held : take have w' ≡ take have w
  pub within : have + got ≤ want

-- How many bytes were read, also where a read then failed.
abbrev pub got_before : Result ℕ FailedRead → ℕ
got_before (Ok got) = got
got_before (Err failed) = failed.got
