-- `rsr_samples::take_record` meets its contract: what was read, what it is judged to be, and what was written. Assumes nothing.
use Rattle.std.specs.Prelude.{Result}
use Rattle.std.proofs.Common.{ℕ, refl, ap, arith}
use Rattle.streaming.specs.declared.system.Failure.{Failure}
use Rattle.streaming.specs.Failure.{says_failed}
use Rattle.rsr_samples.proofs.Taken.{room, unread, ended, stopped, passed}
use Rattle.rsr_samples.proofs.take_record.Goals as goal

pub returns-in-Err : goal.returns-in-Err
returns-in-Err c = unread _ _ _ _ _ _ (ap (λ (r : Result ℕ Failure). says_failed r) c.in-Err.is)

pub returns-then-have-eq0 : goal.returns-then-have-eq0
returns-then-have-eq0 c = rw c.in-Ok.is (ended _ _ _ _ _ _ refl c.if-have-eq0.true)

pub written-requires : goal.written-requires
written-requires c = (omega (arith, room _ _ _ _ _ c.in-Ok-judge.ensures), omega (arith, c.requires.room))

pub returns-in-Ok-judge : goal.returns-in-Ok-judge
returns-in-Ok-judge c =
    let one = rw c.in-Ok.is at c.requires.one in
    rw c.in-Ok.is (passed _ _ _ _ _ _ refl c.if-have-eq0.false _ _ _ one c.in-Ok-judge.ensures c.written.ensures)

pub returns-in-Err-judge : goal.returns-in-Err-judge
returns-in-Err-judge c =
    let one = rw c.in-Ok.is at c.requires.one in
    rw c.in-Ok.is
    (stopped _ _ _ _ _ _ refl c.if-have-eq0.false _ _ one c.requires.size c.requires.list c.in-Err-judge.ensures)
