-- `idr::reader::read_words` meets its contract. Assumes nothing.
use mathlib.Core.Bool.{and-false}
use mathlib.Core.List.{[], ◌∷◌}
use mathlib.Core.Path.{sym, ◌∙◌}
use borrow.Author.Tests.{ne_eqb}
use Rattle.std.proofs.lemmas.Result.{err_from_is_err_and}
use Rattle.refusals.specs.Judge.{judge}
use Rattle.idr.specs.Read.{read_rules, read_words}
use Rattle.idr.proofs.Judging.{read-numbered, words-judged, judge-accepted, judge-refused}
use Rattle.idr.proofs.reader.read_words.Goals as goal

pub returns-then-list-ne-HEADER : goal.returns-then-list-ne-HEADER
unfolding read_words judge
returns-then-list-ne-HEADER c = rw (ne_eqb _ _ c.if-list-ne-HEADER.true, and-false)

pub returns-in_err-w : goal.returns-in_err-w
returns-in_err-w c =
    let s = c.args.s.now in
    let list = c.args.list.now in
    let p = err_from_is_err_and c.from_residual.result c.from_residual.ensures.1 in
    let refused = judge-refused (λ n. (n ∷ [], list)) (read_rules s) _ _ c.in_err-w.ensures in
    rw (p.1, p.2) (sym (words-judged s list c.if-list-ne-HEADER.false ∙ refused))

pub returns : goal.returns
returns c =
    let s = c.args.s.now in
    let list = c.args.list.now in
    let accepted = judge-accepted (λ n. (n ∷ [], list)) (read_rules s) _ (read-numbered s) c.in_ok-w.ensures.1 in
    let answer = words-judged s list c.if-list-ne-HEADER.false ∙ accepted in
    rw (c.copy_from_slice.ensures.after, c.in_ok-w.ensures.0) (sym answer)
