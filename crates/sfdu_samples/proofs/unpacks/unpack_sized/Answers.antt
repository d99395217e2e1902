-- `sfdu_samples::unpacks::unpack_sized` meets its contract: each arm's width is the size. Assumes nothing.
use Rattle.sfdu_samples.proofs.unpacks.unpack_sized.Goals as goal

pub unpack_sample_words-requires : goal.unpack_sample_words-requires
unpack_sample_words-requires c = rw c.in-1.is at c.requires

pub unpack_sample_words-requires-in-2 : goal.unpack_sample_words-requires-in-2
unpack_sample_words-requires-in-2 c = rw c.in-2.is at c.requires

pub unpack_sample_words-requires-in-4 : goal.unpack_sample_words-requires-in-4
unpack_sample_words-requires-in-4 c = rw c.in-4.is at c.requires

pub unpack_sample_words-requires-in-8 : goal.unpack_sample_words-requires-in-8
unpack_sample_words-requires-in-8 c = rw c.in-8.is at c.requires

pub unpack_sample_words-requires-in-16 : goal.unpack_sample_words-requires-in-16
unpack_sample_words-requires-in-16 c = rw c.in-16.is at c.requires

pub returns-in-1 : goal.returns-in-1
returns-in-1 c = rw c.in-1.is c.unpack_sample_words.ensures

pub returns-in-2 : goal.returns-in-2
returns-in-2 c = rw c.in-2.is c.unpack_sample_words-in-2.ensures

pub returns-in-4 : goal.returns-in-4
returns-in-4 c = rw c.in-4.is c.unpack_sample_words-in-4.ensures

pub returns-in-8 : goal.returns-in-8
returns-in-8 c = rw c.in-8.is c.unpack_sample_words-in-8.ensures

pub returns-in-16 : goal.returns-in-16
returns-in-16 c = rw c.in-16.is c.unpack_sample_words-in-16.ensures
