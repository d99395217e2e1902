-- What a read or a write answered. Only `read_piece` and `try_write` make a `Failure`, from what a reader or the system answered: the struct's field
-- is private to their file. Assumes nothing.
use Rattle.std.specs.Prelude.{ℕ, Bool, true, false, Result, Ok, Err}
use Rattle.streaming.specs.declared.system.Failure.{Failure}

abbrev pub says_failed : {A : Type 0} → Result A Failure → Bool
says_failed (Ok x) = false
says_failed (Err why) = true

-- How many bytes were read; none where the read failed.
abbrev pub got_of : Result ℕ Failure → ℕ
got_of (Ok got) = got
got_of (Err why) = 0
