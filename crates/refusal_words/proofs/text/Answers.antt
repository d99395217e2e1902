-- `refusal_words::text` meets its contract: both tables are written from the same texts. Assumes nothing.
use mathlib.Core.Path.{sym}
use Rattle.refusal_words.specs.Texts.{table, text_of, unknown}
use Rattle.refusal_words.proofs.Put.{now-at, in-range}
use Rattle.refusal_words.proofs.Right.{past-table}
use Rattle.refusal_words.proofs.text.Goals as goal

pub returns-then-i-lt-NUMBERS : goal.returns-then-i-lt-NUMBERS
unfolding table text_of
returns-then-i-lt-NUMBERS c = rw now-at (in-range table c.args.number _ unknown c.if-i-lt-NUMBERS.true)

pub returns : goal.returns
returns c = sym (past-table c.args.number c.if-i-lt-NUMBERS.false)
