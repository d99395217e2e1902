-- `trace::read_line` meets its contract. Assumes nothing.
use mathlib.Core.Path.{ap}
use Rattle.std.proofs.lemmas.Result.{err_from_is_err_and}
use Rattle.ledger_replay.specs.Trace.{line_at}
use Rattle.ledger_replay.specs.inner.Numbered.{with_call}
use Rattle.ledger_replay.proofs.trace.read_line.Goals as goal

pub returns-in_err-call : goal.returns-in_err-call
unfolding line_at
returns-in_err-call c =
    let p = err_from_is_err_and c.from_residual.result c.from_residual.ensures.1 in
    rw (p.1, p.2) (ap (λ call. with_call (line_at c.args.t.now c.args.a) call) c.in_err-call.ensures)

pub returns : goal.returns
unfolding line_at
returns c =
    rw (c.read_u32.ensures, c.read_be.ensures) (ap (λ call. with_call (line_at c.args.t.now c.args.a) call) c.in_ok-call.ensures)
