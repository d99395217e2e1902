-- `sfdu_samples::packs::pack_sized` meets its contract: each arm's width is the size. Assumes nothing.
use Rattle.sfdu_samples.proofs.packs.pack_sized.Goals as goal

pub pack_sample_words-requires : goal.pack_sample_words-requires
pack_sample_words-requires c = rw c.in-1.is at c.requires

pub pack_sample_words-requires-in-2 : goal.pack_sample_words-requires-in-2
pack_sample_words-requires-in-2 c = rw c.in-2.is at c.requires

pub pack_sample_words-requires-in-4 : goal.pack_sample_words-requires-in-4
pack_sample_words-requires-in-4 c = rw c.in-4.is at c.requires

pub pack_sample_words-requires-in-8 : goal.pack_sample_words-requires-in-8
pack_sample_words-requires-in-8 c = rw c.in-8.is at c.requires

pub pack_sample_words-requires-in-16 : goal.pack_sample_words-requires-in-16
pack_sample_words-requires-in-16 c = rw c.in-16.is at c.requires

pub returns-in-1 : goal.returns-in-1
returns-in-1 c = rw c.in-1.is c.pack_sample_words.ensures

pub returns-in-2 : goal.returns-in-2
returns-in-2 c = rw c.in-2.is c.pack_sample_words-in-2.ensures

pub returns-in-4 : goal.returns-in-4
returns-in-4 c = rw c.in-4.is c.pack_sample_words-in-4.ensures

pub returns-in-8 : goal.returns-in-8
returns-in-8 c = rw c.in-8.is c.pack_sample_words-in-8.ensures

pub returns-in-16 : goal.returns-in-16
returns-in-16 c = rw c.in-16.is c.pack_sample_words-in-16.ensures
