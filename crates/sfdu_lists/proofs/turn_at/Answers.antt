-- `sfdu_lists::turn_at` meets its contract: each case of the step is a case of the turn. Assumes nothing.
use Prim.Native.Nat.{ℕ}
use mathlib.Core.List.{List, ◌∷◌}
use mathlib.Core.Path.{◌≡◌, sym, ap, ◌∙◌}
use Rattle.std.specs.Prelude.{Option, Result, Ok}
use Rattle.sfdu.specs.declared.Record.{Record}
use Rattle.sfdu.specs.declared.Fault.{Fault}
use Rattle.sfdu.specs.Read.{primary_words}
use Rattle.sfdu_stream.specs.Walk.{found_words, words_of, step}
use Rattle.sfdu_stream.proofs.Places.{StepFound, found-there, done-there, refused-there, offset-there}
use Rattle.sfdu_lists.proofs.Underway.{turn-full, turn-none}
use Rattle.sfdu_lists.proofs.turn_at.Goals as goal
use Rattle.sfdu_lists.proofs.turn_at.Goals.{After-step-step, In-Ok-Some}

-- What the step says of the place, by what it finds.
said : (c : After-step-step) {found : Result (Option Record) Fault} → c.step-step.result.found ≡ found
    → c.step-step.result.next.at ∷ found_words found ≡ step c.args.s.now c.args.at
said c e = sym (ap (λ x. c.step-step.result.next.at ∷ found_words x) e) ∙ c.step-step.ensures

-- Where the step finds a record: what is known of it.
found : (c : In-Ok-Some) → let a = c.args in let r = c.in-Ok-Some.found in
    StepFound a.s.now a.at r.kind r.size c.step-step.result.next.at
found c =
    let r = c.in-Ok-Some.found in
    let some = rw c.in-Ok-Some.is at c.in-Ok-Some.field-0-is in
    found-there _ _ r.kind r.size (primary_words r.primary) _
    (said (goal.at.In-Ok-Some c).After-step-step (c.in-Ok-Some.is ∙ ap (λ x. Ok x) some))

pub returns-then-size-count : goal.returns-then-size-count
returns-then-size-count c =
    let f = found (goal.at.returns-then-size-count c).In-Ok-Some in
    turn-full _ _ _ _ _ f.there.is_whole c.if-size-count.true (ap words_of c.stopped.ensures)

pub entry_at-requires : goal.entry_at-requires
entry_at-requires c = (found (goal.at.entry_at-requires c).In-Ok-Some).there

pub returns-else-size-count : goal.returns-else-size-count
returns-else-size-count c =
    let f = found (goal.at.returns-else-size-count c).In-Ok-Some in
    record { is_whole = f.there.is_whole; free = c.if-size-count.false; entry = c.entry_at.ensures; next = f.moved }

pub returns-in-Ok-None : goal.returns-in-Ok-None
returns-in-Ok-None c =
    let a = c.args in
    let none = rw c.in-Ok-None.is at c.in-Ok-None.field-0-is in
    let n = done-there a.s.now a.at _
    (said (goal.at.returns-in-Ok-None c).After-step-step (c.in-Ok-None.is ∙ ap (λ x. Ok x) none)) in
    turn-none a.s.now a.at a.count a.size _ _ _ n (ap words_of c.stopped-in-Ok-None.ensures)

pub in_stream-requires : goal.in_stream-requires
in_stream-requires c = offset-there _ _ _ _ _ (said (goal.at.in_stream-requires c).After-step-step c.in-Err.is)

pub returns-in-Err : goal.returns-in-Err
returns-in-Err c =
    let a = c.args in
    let n = refused-there a.s.now a.at _ _ _ (said (goal.at.returns-in-Err c).After-step-step c.in-Err.is) in
    turn-none a.s.now a.at a.count a.size _ _ _ n
    (ap words_of c.stopped-in-Err.ensures ∙ ap (λ (w : List ℕ). a.count ∷ a.at ∷ w) c.in_stream.ensures)
