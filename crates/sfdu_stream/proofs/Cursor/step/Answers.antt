-- `sfdu_stream::Cursor::step` meets its contract: done, or what read one answers at the place. Assumes nothing.
use native.Mathlib.Omega.{arith}
use Prim.Native.Nat.{◌+◌}
use Rattle.std.specs.Prelude.{Some, Ok}
use mathlib.Core.List.{◌∷◌}
use mathlib.Core.Path.{◌≡◌, sym, ap, ◌∙◌}
use Rattle.refusals.specs.Table.{number_of}
use Rattle.sfdu.specs.Read.{words_of, primary_words, read_one}
use Rattle.sfdu_stream.specs.Walk.{found_words, step_words, step}
use Rattle.sfdu_stream.proofs.Places.{whole-record, from-there, step-done, step-found, step-refused, found-there}
use Rattle.sfdu_stream.proofs.Cursor.step.Goals as goal
use Rattle.sfdu_stream.proofs.Cursor.step.Goals.{In-Ok}

pub returns-then-s-at : goal.returns-then-s-at
returns-then-s-at c = ap step_words c.stays.ensures ∙ sym (step-done _ _ c.if-s-at.true)

-- Where read one finds a record: the words of the step.
found : (c : In-Ok) → let at = c.args.self.at in let r = c.in-Ok.found in
    step c.args.s.now at ≡ (at + r.size) ∷ found_words (Ok (Some r))
found c =
    let s = c.args.s.now in
    let at = c.args.self.at in
    let r = c.in-Ok.found in
    step-found s at r.kind r.size (primary_words r.primary) c.if-s-at.false
    (sym (ap words_of c.in-Ok.is) ∙ c.read_one.ensures ∙ ap read_one (from-there s at))

pub overflow_add-result : goal.overflow_add-result
overflow_add-result c =
    let s = c.args.s.now in
    let at = c.args.self.at in
    let r = c.in-Ok.found in
    let f = found-there s at r.kind r.size (primary_words r.primary) _ (sym (found (goal.at.overflow_add-result c).In-Ok)) in
    let w = whole-record s at f.there.is_whole in
    omega (arith, f.moved)

pub returns-in-Ok : goal.returns-in-Ok
returns-in-Ok c = sym (found (goal.at.returns-in-Ok c).In-Ok)

pub returns-in-Err : goal.returns-in-Err
returns-in-Err c =
    let s = c.args.s.now in
    let at = c.args.self.at in
    let f = c.in-Err.fault in
    ap step_words c.stays-in-Err.ensures
    ∙ sym (step-refused s at (number_of f.refusal) f.at c.if-s-at.false
    (sym (ap words_of c.in-Err.is) ∙ c.read_one.ensures ∙ ap read_one (from-there s at)))
