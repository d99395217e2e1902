-- `rsr_samples::input::next_record` meets its contract: the label says how much is read. Assumes nothing.
use Rattle.std.proofs.Common.{refl, arith}
use Rattle.std.proofs.lemmas.Result.{err_from_is_err_and}
use Rattle.rsr_samples.proofs.Read.{wanted, of-label, of-record}
use Rattle.rsr_samples.proofs.input.next_record.Goals as goal

pub returns-in_err-got : goal.returns-in_err-got
returns-in_err-got g c =
    let p = err_from_is_err_and c.from_residual.result c.from_residual.ensures.1 in
    rw p.1 (of-label c.read_up_to.new.w 0 (omega arith) (omega arith))

pub returns-then-got-lt-LABEL : goal.returns-then-got-lt-LABEL
returns-then-got-lt-LABEL g c =
    of-label c.read_up_to.new.w _ (omega arith) (omega (arith, c.in_ok-got.ensures.within))

pub read_up_to-requires-2 : goal.read_up_to-requires-2
read_up_to-requires-2 g c =
    let w = wanted c.read_up_to.new.w in
    let is = c.wanted-want.ensures in
    (omega (arith, w.least), omega (arith, w.most))

pub returns-in_err-rest : goal.returns-in_err-rest
returns-in_err-rest g c =
    let p = err_from_is_err_and c.from_residual-in_err-rest.result c.from_residual-in_err-rest.ensures.1 in
    rw p.1 (of-label c.read_up_to-2.new.w 0 (omega arith) (omega arith))

pub returns : goal.returns
returns g c =
    let kept = rw c.wanted-want.ensures at c.in_ok-rest.ensures in
    of-record c.read_up_to-2.new.w _ (omega arith) _ _ refl kept
