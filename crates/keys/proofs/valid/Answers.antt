-- `valid` meets its contract. Assumes nothing.
use borrow.Author.Tests.{lt-ltb, le-ltb, le-leb}
use Rattle.keys.specs.Key.{valid_key}
use Rattle.keys.proofs.valid.Goals as goal

pub returns-then-key-lt-RSR_START : goal.returns-then-key-lt-RSR_START
unfolding valid_key
returns-then-key-lt-RSR_START c = simp (lt-ltb _ _ c.if-key-lt-RSR_START.true)

pub returns : goal.returns
unfolding valid_key
returns c = simp (le-ltb _ _ c.if-key-lt-RSR_START.false, le-leb _ _ c.if-key-lt-RSR_START.false)
