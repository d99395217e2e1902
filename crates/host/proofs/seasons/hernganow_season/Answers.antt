-- `host::seasons::hernganow_season` meets its contract. Assumes nothing.
use Prim.Native.Nat.{ℕ}
use mathlib.Core.List.{List}
use mathlib.Core.Path.{ap}
use Rattle.answers.specs.Numbers.{with_none}
use Rattle.ledger_answers.specs.Seasons.{in_all_count}
use Rattle.host.proofs.Exports.{unwritten, written}
use Rattle.host.proofs.InAll.{in_all_lem}
use Rattle.host.proofs.seasons.hernganow_season.Goals as goal

pub returns-then-answer-ne-ANSWER : goal.returns-then-answer-ne-ANSWER
returns-then-answer-ne-ANSWER c = unwritten _ _ c.if-answer-ne-ANSWER.true c.unwritten.ensures

pub returns : goal.returns
returns c =
    let words = ap (λ (l : List ℕ). with_none in_all_count l) (in_all_lem c.season-found.result c.season-found.ensures) in
    written _ _ c.if-answer-ne-ANSWER.false words c.in_all.ensures.0 c.write.ensures
