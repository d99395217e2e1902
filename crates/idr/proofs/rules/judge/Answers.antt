-- `idr::rules::judge` meets its contract. Assumes nothing.
use mathlib.Core.Path.{sym, ◌∙◌}
use borrow.Author.Tests.{ne_eqb}
use Rattle.refusals.specs.Judge.{judge}
use Rattle.idr.proofs.Judging.{header-verdict}
use Rattle.idr.proofs.rules.judge.Goals as goal

pub returns-in_default : goal.returns-in_default
unfolding judge
returns-in_default c = rw (ne_eqb _ _ c.in_default.ensures.1)

pub returns : goal.returns
returns c =
    let whole = c.in-Ok.ensures.1 in
    rw whole.same at c.judge_words.ensures ∙ sym (header-verdict c.args.w.now whole.long)
