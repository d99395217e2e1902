-- `answers::text` meets its contract. Assumes nothing.
use Rattle.answers.proofs.Along.{few-along}
use Rattle.answers.specs.Numbers.{plain}
use Rattle.refusal_words.specs.Written.{words_of}
use borrow.Author.Rules.{rules}
use Rattle.answers.proofs.text.Goals as goal

pub returns-in-Ok : goal.returns-in-Ok
returns-in-Ok c = few-along (λ a. plain (words_of a)) c.in-Ok.is (search rules)

pub returns-in-Err : goal.returns-in-Err
returns-in-Err c = few-along (λ a. plain (words_of a)) c.in-Err.is c.refused.ensures
