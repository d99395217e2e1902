-- `sfdu_samples::packs::write_word` meets its contract. Assumes nothing.
use Rattle.sfdu_samples.proofs.packs.write_word.Goals as goal

pub returns : goal.returns
returns c = rw (← c.swapped.ensures) c.store.ensures
