-- `idr_write::write_record` meets its contract. Assumes nothing.
use mathlib.Core.List.{[], ◌∷◌}
use mathlib.Core.Path.{sym, ◌∙◌}
use borrow.Author.Tests.{eq-eqb, ne_eqb}
use Rattle.std.proofs.lemmas.Result.{err_from_is_err_and}
use Rattle.refusals.specs.Judge.{judge}
use Rattle.idr.specs.Rules.{word_rules}
use Rattle.idr_write.specs.Write.{are_lengths, write_record}
use Rattle.idr.proofs.Judging.{words-numbered, header-verdict, judge-accepted, judge-refused}
use Rattle.idr_write.proofs.Written.{write-judged}
use Rattle.idr_write.proofs.write_record.Goals as goal

pub returns-then-out-ne-RECORD : goal.returns-then-out-ne-RECORD
unfolding write_record are_lengths judge
returns-then-out-ne-RECORD c = rw (ne_eqb _ _ c.if-out-ne-RECORD.true)

pub returns-then-words-ne-HEADER : goal.returns-then-words-ne-HEADER
unfolding write_record are_lengths judge
returns-then-words-ne-HEADER c = rw (eq-eqb _ _ c.if-out-ne-RECORD.false, ne_eqb _ _ c.if-words-ne-HEADER.true)

pub returns-then-samples-ne-SAMPLES : goal.returns-then-samples-ne-SAMPLES
unfolding write_record are_lengths judge
returns-then-samples-ne-SAMPLES c = rw (eq-eqb _ _ c.if-out-ne-RECORD.false, eq-eqb _ _ c.if-words-ne-HEADER.false, ne_eqb _ _ c.if-samples-ne-SAMPLES.true)

pub returns-in_err-judge : goal.returns-in_err-judge
returns-in_err-judge c =
    let g = c.args in
    let p = err_from_is_err_and c.from_residual.result c.from_residual.ensures.1 in
    let e = c.in_err-judge.ensures ∙ header-verdict g.words.now c.if-words-ne-HEADER.false in
    rw (p.1, p.2)
    (sym (write-judged g.words.now g.samples.now g.out.now c.if-out-ne-RECORD.false c.if-words-ne-HEADER.false c.if-samples-ne-SAMPLES.false
    ∙ judge-refused (λ n. (n ∷ [], g.out.now)) (word_rules g.words.now) _ _ e))

pub returns : goal.returns
returns c =
    let g = c.args in
    let e = c.in_ok-judge.ensures ∙ header-verdict g.words.now c.if-words-ne-HEADER.false in
    rw c.write_whole.ensures
    (sym (write-judged g.words.now g.samples.now g.out.now c.if-out-ne-RECORD.false c.if-words-ne-HEADER.false c.if-samples-ne-SAMPLES.false
    ∙ judge-accepted (λ n. (n ∷ [], g.out.now)) (word_rules g.words.now) _ (words-numbered g.words.now) e))
