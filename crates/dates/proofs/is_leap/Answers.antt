-- `is_leap` meets its contract: each way out rewrites with the tests that led there. Assumes nothing.
use borrow.Author.Tests.{eq-eqb, ne_eqb}
use Rattle.dates.specs.Calendar.{is_leap}
use Rattle.dates.proofs.is_leap.Goals as goal

pub returns-then-year-ne0 : goal.returns-then-year-ne0
unfolding is_leap
returns-then-year-ne0 c = simp (ne_eqb _ _ c.if-year-ne0.true)

pub returns-then-year-ne0-2 : goal.returns-then-year-ne0-2
unfolding is_leap
returns-then-year-ne0-2 c = simp (eq-eqb _ _ c.if-year-ne0.false, ne_eqb _ _ c.if-year-ne0-2.true)

pub returns : goal.returns
unfolding is_leap
returns c = simp (eq-eqb _ _ c.if-year-ne0.false, eq-eqb _ _ c.if-year-ne0-2.false)
