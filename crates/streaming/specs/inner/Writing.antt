-- What a failed write says. Assumes nothing.
use Rattle.std.specs.Prelude.{◌≡◌, Result, Ok, Err}
use Rattle.std.specs.IoError.{error_kind}
use Rattle.std.specs.declared.io.ErrorKind.TheVariants.{BrokenPipe}
use Rattle.streaming.specs.declared.system.Failure.{Failure}

-- A write failed because the reader is gone.
abbrev pub LacksReader : Failure → Type 0
LacksReader failure = error_kind failure.error ≡ BrokenPipe

-- Nobody reads what was written any more.
abbrev pub Unread : Result (Unit {0}) Failure → Type 0
Unread (Ok done) = ⊥
Unread (Err why) = LacksReader why
