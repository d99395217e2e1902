-- `rsr_samples_text::ending` meets its contract. Assumes nothing.
use borrow.Author.Tests.{eq-eqb, ne_eqb}
use Rattle.rsr_samples_text.specs.Text.{ending_at}
use Rattle.rsr_samples_text.proofs.ending.Goals as goal

pub returns-then-i-eq0 : goal.returns-then-i-eq0
unfolding ending_at
returns-then-i-eq0 c = rw (eq-eqb _ _ c.if-i-eq0.true)

pub returns : goal.returns
unfolding ending_at
returns c = rw (ne_eqb _ _ c.if-i-eq0.false)
