-- `idr::reader::accepted_words` meets its contract. Assumes nothing.
use mathlib.Core.Path.{sym, ◌∙◌}
use borrow.Author.Tests.{ne_eqb}
use Rattle.std.proofs.lemmas.Result.{err_from_is_err_and}
use Rattle.refusals.specs.Judge.{judge}
use Rattle.idr.proofs.Judging.{length-verdict}
use Rattle.idr.proofs.reader.accepted_words.Goals as goal

pub returns-then-s-ne-RECORD : goal.returns-then-s-ne-RECORD
unfolding judge
returns-then-s-ne-RECORD c = rw (ne_eqb _ _ c.if-s-ne-RECORD.true)

pub returns-in_err-judge_words : goal.returns-in_err-judge_words
returns-in_err-judge_words c =
    let p = err_from_is_err_and c.from_residual.result c.from_residual.ensures.1 in
    let judged = rw c.header-w.ensures at c.in_err-judge_words.ensures in
    rw (p.1, p.2) (judged ∙ sym (length-verdict c.args.s.now c.if-s-ne-RECORD.false))

pub returns : goal.returns
returns c =
    let judged = rw c.header-w.ensures at c.in_ok-judge_words.ensures in
    (c.header-w.ensures, judged ∙ sym (length-verdict c.args.s.now c.if-s-ne-RECORD.false))
