-- `idr::reader::read_record` meets its contract. Assumes nothing.
use mathlib.Core.List.{[], ◌∷◌}
use mathlib.Core.Path.{sym, ◌∙◌}
use Rattle.std.proofs.lemmas.Result.{err_from_is_err_and}
use Rattle.idr.specs.Read.{read_rules, read_record}
use Rattle.idr.proofs.Judging.{read-numbered, judge-accepted, judge-refused}
use Rattle.idr.proofs.reader.read_record.Goals as goal

pub returns-in_err-w : goal.returns-in_err-w
unfolding read_record
returns-in_err-w c =
    let p = err_from_is_err_and c.from_residual.result c.from_residual.ensures.1 in
    rw (p.1, p.2) (sym (judge-refused (λ n. n ∷ []) (read_rules c.args.s.now) _ _ c.in_err-w.ensures))

pub returns : goal.returns
unfolding read_record
returns c =
    let s = c.args.s.now in
    let given = rw c.in_ok-w.ensures.0 at c.given.ensures in
    given ∙ sym (judge-accepted (λ n. n ∷ []) (read_rules s) _ (read-numbered s) c.in_ok-w.ensures.1)
