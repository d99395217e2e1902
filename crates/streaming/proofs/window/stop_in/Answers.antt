-- The stop of the definition, case by case. Assumes nothing.
use Rattle.std.proofs.Common.{sym, ◌∙◌}
use Rattle.sfdu.specs.Read.{in_stream}
use Rattle.streaming.specs.Window.{stop_of}
use Rattle.streaming.proofs.Labels.{over-stop}
use Rattle.streaming.proofs.window.stop_in.Goals as goal

pub returns-then-is_over : goal.returns-then-is_over
returns-then-is_over c =
    over-stop c.args.place c.args.s.now c.args.fault (sym c.is_over.ensures ∙ c.if-is_over.true)

pub returns-then-is_count : goal.returns-then-is_count
unfolding stop_of in_stream
returns-then-is_count c =
    let over = sym c.is_over.ensures ∙ c.if-is_over.false in
    let counts = sym c.is_count.ensures ∙ c.if-is_count.true in
    rw (over, counts)

pub returns : goal.returns
unfolding stop_of in_stream
returns c =
    let over = sym c.is_over.ensures ∙ c.if-is_over.false in
    let counts = sym c.is_count.ensures ∙ c.if-is_count.false in
    rw (over, counts)
