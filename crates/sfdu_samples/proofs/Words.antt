-- Different answers have different words. Assumes nothing.
use Rattle.refusals.specs.Words.{one_word}
use Rattle.refusals.proofs.Words.{results-differ, one-differs}
use Rattle.sfdu.specs.Read.{refusal_words}
use Rattle.sfdu.proofs.Words.{same-refusal, refusals-refuse}
use Rattle.sfdu_samples.specs.Calls.{DifferentAnswers}

pub same_answer : DifferentAnswers
same_answer = results-differ refusal_words one_word refusals-refuse same-refusal one-differs
