-- `sfdu_samples::packs::pack_sample_words` meets its contract. The invariant: the words that are left, packed and stored, give the result.
-- Assumes nothing.
use Rattle.std.proofs.Common.{◌≡◌, ◌+◌, ◌-◌, ◌*◌, ◌≤◌, length, zero-mul, sym, refl, ◌∙◌, suc-mul, add-one, arith}
use lib.Seq.{length-sets}
use Rattle.sfdu_samples.specs.Packing.{per_sample_word}
use Rattle.sfdu_samples.proofs.Runs.{next-within}
use Rattle.sfdu_samples.proofs.Packed.{packed_none, packed_more}
use Rattle.sfdu_samples.proofs.packs.pack_sample_words.Goals as goal
use Rattle.sfdu_samples.proofs.packs.pack_sample_words.Goals.{In-loop-i}

pub loop-i-init : goal.loop-i-init
loop-i-init c =
    let all-of-them : c.args.words - 0 ≡ c.args.words = omega arith in
    (omega arith, refl, rw (all-of-them, zero-mul, zero-mul))

-- The numbers of this word are there.
within : (c : In-loop-i) → c.loop-i.i * per_sample_word c.args.width.bits + per_sample_word c.args.width.bits ≤ length c.args.samples.now
within c = omega (arith, c.requires.0, next-within c.loop-i.i c.args.words (per_sample_word c.args.width.bits) (omega arith))

pub overflow_mul-i : goal.overflow_mul-i
overflow_mul-i c = omega (arith, c.requires.1)

pub overflow_mul-i-in-loop-i : goal.overflow_mul-i-in-loop-i
overflow_mul-i-in-loop-i c =
    rw c.per_sample_word-per.ensures (omega (arith, c.well_formed.0.0, within (goal.at.overflow_mul-i-in-loop-i c).In-loop-i))

pub sample_word_of-requires : goal.sample_word_of-requires
sample_word_of-requires c = (rw c.per_sample_word-per.ensures (within (goal.at.sample_word_of-requires c).In-loop-i), c.requires.2)

pub write_word-requires : goal.write_word-requires
write_word-requires c =
    omega (arith, c.requires.1, c.loop-i.invariant.1)

pub loop-i-preserved : goal.loop-i-preserved
loop-i-preserved c =
    let per = c.per_sample_word-per.ensures in
    let w = c.args.width.bits in
    let e = c.write_word.ensures in
    let next : (c.loop-i.i + 1) * per_sample_word w ≡ c.loop-i.i * per_sample_word w + per_sample_word w = rw (add-one, suc-mul c.loop-i.i (per_sample_word w)) in (
      omega arith,
      rw (e, length-sets) c.loop-i.invariant.1,
      rw (
        e,
        c.sample_word_of.ensures,
        per,
        next,
      ) (packed_more c.loop-i.out w c.loop-i.i c.args.words (c.loop-i.i * per_sample_word w) c.args.samples.now (omega arith)) ∙ c.loop-i.invariant.2,
    )

pub shape_of-out : goal.shape_of-out
shape_of-out c = c.loop-i.invariant.1

pub returns : goal.returns
returns c =
    let z : c.args.words - c.loop-i.i ≡ 0 = omega arith in
    sym (packed_none _ _ _ _ _ z) ∙ c.loop-i.invariant.2
