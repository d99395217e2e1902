-- Different answers have different words. Assumes nothing.
use Rattle.refusals.specs.Words.{one_word}
use Rattle.refusals.proofs.Words.{answers-differ, one-differs}
use Rattle.sfdu_write.specs.Write.{DifferentWrites}

pub same_write : DifferentWrites
same_write = answers-differ one_word one-differs
