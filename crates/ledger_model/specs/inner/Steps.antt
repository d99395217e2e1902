-- The model's step as the contract of one call in a chain. Assumes nothing.
use Rattle.std.specs.Prelude.{◌≡◌}
use Rattle.ledger_model.specs.Book.{Book}
use Rattle.ledger_model.specs.Step.{Call, Answer, reply, step}

-- The call c on the book b answers a and leaves b'.
abbrev pub Steps : Call → Book → Answer → Book → Type 0
Steps c b a b' = step c b ≡ reply a b'
