-- `receive` meets its contract. Assumes nothing.
use mathlib.Core.Path.{sym, ◌∙◌}
use Rattle.ledger_judged.proofs.Judged.{handed}
use Rattle.ledger_receive.proofs.Receives.{receive-refused, ready, made-is}
use Rattle.ledger_receive.proofs.receive.Goals as goal

pub returns-in_err-receive_verdict : goal.returns-in_err-receive_verdict
returns-in_err-receive_verdict c =
    let g = c.args in
    rw (handed c.from_residual.ensures) (receive-refused g.desk g.s.now g.stream.now g.list.now _ c.in_err-receive_verdict.ensures)

pub receive_all-requires : goal.receive_all-requires
receive_all-requires c =
    let g = c.args in
    ready g.desk g.s.now (sym c.in_ok-receive_verdict.ensures)

pub returns : goal.returns
returns c =
    let g = c.args in
    c.receive_all.ensures ∙ sym (made-is g.desk g.s.now (sym c.in_ok-receive_verdict.ensures) g.stream.now g.list.now)
