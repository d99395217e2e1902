-- `sfdu_samples::packs::sample_word_of` meets its contract. Assumes nothing.
use Rattle.std.proofs.Common.{drop-drop}
use Rattle.sfdu_samples.specs.Packing.{sample_word_of}
use Rattle.sfdu_samples.proofs.packs.sample_word_of.Goals as goal

pub returns : goal.returns
unfolding sample_word_of
returns c =
    rw (c.half_of-q.ensures.0, c.half_of-i.ensures.0, drop-drop 1 c.args.at c.args.samples.now)
