-- `rsr_samples::judging::judge` meets its contract: unpack's answer, case by case. Assumes nothing.
use Rattle.std.proofs.Common.{arith}
use Rattle.rsr_samples.proofs.Stops.{judged-as, count-judged, fault-judged, refusal-judged, words, second-near}
use Rattle.rsr_samples.proofs.judging.judge.Goals as goal

pub stop_in-requires : goal.stop_in-requires
stop_in-requires c =
    let told = words (rw c.in-Err-Fault.field-0-is at c.in-Err-Fault.is) c.unpack.ensures in
    let near = second-near c.args.s.now c.args.list.now c.in-Err-Fault.fault c.requires.0 told in
    omega (arith, c.requires.1)

pub returns-in-Ok : goal.returns-in-Ok
returns-in-Ok c =
    let given = c.args in
    let is = count-judged given.place given.s.now c.in-Ok.n in
    judged-as _ _ _ _ c.unpack.result _ c.unpack.ensures (rw c.in-Ok.is is)

pub returns-in-Err-Fault : goal.returns-in-Err-Fault
returns-in-Err-Fault c =
    let given = c.args in
    let is = fault-judged given.place given.s.now c.in-Err-Fault.fault in
    judged-as _ _ _ _ c.unpack.result _ c.unpack.ensures (rw (c.in-Err-Fault.is, c.in-Err-Fault.field-0-is, c.stop_in.ensures) is)

pub returns-in-Err-Alone : goal.returns-in-Err-Alone
returns-in-Err-Alone c =
    let given = c.args in
    let is = refusal-judged given.place given.s.now c.in-Err-Alone.refusal in
    judged-as _ _ _ _ c.unpack.result _ c.unpack.ensures (rw (c.in-Err-Alone.is, c.in-Err-Alone.field-0-is) is)
