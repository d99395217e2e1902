-- `refusal_words::write` meets its contract. Assumes nothing.
use Rattle.refusal_words.proofs.Put.{too_short, written-text}
use Rattle.refusal_words.proofs.write.Goals as goal

pub returns-then-out-size : goal.returns-then-out-size
returns-then-out-size c = too_short _ _ _ c.text-text.ensures c.if-out-size.true

pub returns : goal.returns
returns c = written-text _ _ _ _ c.text-text.ensures c.copy_from_slice.ensures.after c.if-out-size.false
