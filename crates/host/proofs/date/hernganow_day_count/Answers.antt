-- `host::date::hernganow_day_count` meets its contract. Where they are no date it tells a none. Assumes nothing.
use mathlib.Core.Path.{ap, ◌∙◌}
use Rattle.answers.specs.inner.Dates.{count_words}
use Rattle.host.proofs.Days.{day-counted}
use Rattle.host.proofs.Exports.{unwritten, written}
use Rattle.host.proofs.date.hernganow_day_count.Goals as goal

pub returns-then-answer-ne-ANSWER : goal.returns-then-answer-ne-ANSWER
returns-then-answer-ne-ANSWER c = unwritten _ _ c.if-answer-ne-ANSWER.true c.unwritten.ensures

pub returns : goal.returns
returns c =
    let length = c.if-answer-ne-ANSWER.false in
    let words = ap count_words c.day_count-found.ensures ∙ day-counted _ _ in
    written _ _ length words c.day_count.ensures.same c.write_few.ensures
