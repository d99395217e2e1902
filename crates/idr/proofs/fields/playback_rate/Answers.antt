-- `idr::fields::playback_rate` meets its contract. One test over the codes. Assumes nothing.
use mathlib.Core.Path.{ap, ◌∙◌}
use borrow.Author.Tests.{eq-eqb, ne_eqb}
use Rattle.idr.specs.inner.Listed.{listed}
use Rattle.idr.proofs.Rates.{slowest}
use Rattle.idr.proofs.fields.playback_rate.Goals as goal

pub returns-then-code-ne0 : goal.returns-then-code-ne0
returns-then-code-ne0 c = ap listed (rw (ne_eqb _ _ c.if-code-ne0.true) at (slowest c.args.code c.requires))

pub returns : goal.returns
returns c = c.sampling_rate.ensures ∙ ap listed (rw (eq-eqb _ _ c.if-code-ne0.false) at (slowest c.args.code c.requires))
