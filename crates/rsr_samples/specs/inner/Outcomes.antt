-- What the functions give, as the definitions have it. Assumes nothing.
use Rattle.std.specs.Prelude.{ℕ, Option, Some, None, Result, Ok, Err}
use Rattle.streaming.specs.declared.window.Stop.{Stop}
use Rattle.streaming.specs.inner.Stops.{told}
use Rattle.rsr_samples.specs.declared.End.{End}
use Rattle.rsr_samples.specs.declared.End.TheVariants as E
use Rattle.rsr_samples.specs.Judging as J
use Rattle.rsr_samples.specs.Step as S

abbrev pub unpacked_as : Result ℕ Stop → J.Unpacked
unpacked_as (Ok n) = J.Samples n
unpacked_as (Err stop) = J.Stopped (told stop)

abbrev pub step_as : Result (Option ℕ) End → S.Step
step_as (Ok (Some next)) = S.Passed next
step_as (Ok None) = S.Ended
step_as (Err (E.Stopped stop)) = S.Stopped (told stop)
step_as (Err (E.Unread failure)) = S.Unread
step_as (Err (E.Unwritten failure)) = S.Unwritten
