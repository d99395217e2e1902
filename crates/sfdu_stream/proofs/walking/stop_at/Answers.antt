-- `sfdu_stream::walking::stop_at` meets its contract. Assumes nothing.
use mathlib.Core.Path.{sym, ap, ◌∙◌}
use mathlib.Core.List.{◌∷◌}
use mathlib.Core.Path.{◌≡◌}
use Rattle.std.specs.Prelude.{Option, Result}
use Rattle.sfdu.specs.declared.Record.{Record}
use Rattle.sfdu.specs.declared.Fault.{Fault}
use Rattle.sfdu_stream.specs.Walk.{found_words, step}
use Rattle.sfdu_stream.proofs.Places.{no-record, refused-there, offset-there}
use Rattle.sfdu_stream.proofs.walking.stop_at.Goals as goal
use Rattle.sfdu_stream.proofs.walking.stop_at.Goals.{After-step-step}

-- What the step says of the place, by what it finds.
said : (c : After-step-step) {found : Result (Option Record) Fault} → c.step-step.result.found ≡ found
    → c.step-step.result.next.at ∷ found_words found ≡ step c.args.s.now c.args.at
said c e = sym (ap (λ x. c.step-step.result.next.at ∷ found_words x) e) ∙ c.step-step.ensures

pub in_stream-requires : goal.in_stream-requires
in_stream-requires c = offset-there _ _ _ _ _ (said (goal.at.in_stream-requires c).After-step-step c.in-Err.is)

pub returns-in-Ok : goal.returns-in-Ok
returns-in-Ok c = no-record _ _ _ c.in-Ok.field-0 c.requires (said (goal.at.returns-in-Ok c).After-step-step c.in-Ok.is)

pub returns-in-Err : goal.returns-in-Err
returns-in-Err c =
    let n = refused-there _ _ _ _ _ (said (goal.at.returns-in-Err c).After-step-step c.in-Err.is) in
    c.in_stream.ensures ∙ sym n.number
