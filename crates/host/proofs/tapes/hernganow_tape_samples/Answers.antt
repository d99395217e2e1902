-- `host::tapes::hernganow_tape_samples` meets its contract. How many bytes the part has tells where it starts. Assumes nothing.
use Prim.Native.Nat.{ℕ}
use mathlib.Core.List.{List}
use mathlib.Core.Path.{ap, ◌∙◌}
use lib.ListN.{length}
use Rattle.answers.specs.Numbers.{given}
use Rattle.answers.specs.inner.Parts.{samples_place}
use Rattle.host.proofs.Parts.{samples-placed}
use Rattle.host.proofs.Exports.{unwritten, written}
use Rattle.host.proofs.tapes.hernganow_tape_samples.Goals as goal

pub returns-then-answer-ne-ANSWER : goal.returns-then-answer-ne-ANSWER
returns-then-answer-ne-ANSWER c = unwritten _ _ c.if-answer-ne-ANSWER.true c.unwritten.ensures

pub returns : goal.returns
returns c =
    let size = c.if-answer-ne-ANSWER.false in
    let words = ap (λ (l : List ℕ). given (samples_place (length l))) c.samples-found.ensures.0 ∙ samples-placed _ in
    written _ _ size words c.samples.ensures.same c.write_few.ensures
