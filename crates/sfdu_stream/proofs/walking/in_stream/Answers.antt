-- `sfdu_stream::walking::in_stream` meets its contract. Assumes nothing.
use mathlib.Core.Path.{sym, ◌∙◌}
use Rattle.sfdu.specs.Read.{in_stream}
use Rattle.sfdu_stream.proofs.walking.in_stream.Goals as goal

pub returns-then-is_count : goal.returns-then-is_count
unfolding in_stream
returns-then-is_count c = rw (sym c.is_count.ensures ∙ c.if-is_count.true)

pub returns : goal.returns
unfolding in_stream
returns c = rw (sym c.is_count.ensures ∙ c.if-is_count.false)
