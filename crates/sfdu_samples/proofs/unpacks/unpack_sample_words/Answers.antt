-- `sfdu_samples::unpacks::unpack_sample_words` meets its contract. The invariant: the words that are left, unpacked and stored, give the
-- result. Assumes nothing.
use Rattle.std.proofs.Common.{◌≡◌, ◌-◌, sym, refl, ◌∙◌, suc-mul, add-one, arith}
use lib.Seq.{length-sets}
use Rattle.sfdu_samples.specs.Packing.{per_sample_word}
use Rattle.sfdu_samples.proofs.Runs.{next-within}
use Rattle.sfdu_samples.proofs.Unpacking.{words-none, words_more}
use Rattle.sfdu_samples.proofs.unpacks.unpack_sample_words.Goals as goal

pub loop-i-init : goal.loop-i-init
loop-i-init c =
    let all-of-them : c.args.words - 0 ≡ c.args.words = omega arith in
    (omega arith, omega arith, refl, rw all-of-them)

pub overflow_mul-i : goal.overflow_mul-i
overflow_mul-i c = omega (arith, c.requires.0)

pub read_u32-requires : goal.read_u32-requires
read_u32-requires c = omega (arith, c.requires.0)

pub unpack_sample_word-requires : goal.unpack_sample_word-requires
unpack_sample_word-requires c =
    omega (
      arith,
      c.loop-i.invariant.1,
      c.loop-i.invariant.2,
      c.requires.1,
      next-within c.loop-i.i c.args.words (per_sample_word c.args.width.bits) (omega arith),
    )

pub overflow_add-to : goal.overflow_add-to
overflow_add-to c =
    let per = c.per_sample_word-per.ensures in
    let within = next-within c.loop-i.i c.args.words (per_sample_word c.args.width.bits) (omega arith) in
    omega (arith, c.well_formed.1.1.1.0.0, per, c.loop-i.invariant.1, c.requires.1, within)

pub loop-i-preserved : goal.loop-i-preserved
loop-i-preserved c =
    let per = c.per_sample_word-per.ensures in
    let e = c.unpack_sample_word.ensures in (
      omega arith,
      rw (per, c.loop-i.invariant.1, add-one, suc-mul c.loop-i.i (per_sample_word c.args.width.bits)),
      rw (e, length-sets) c.loop-i.invariant.2,
      rw (
        e,
        per,
        c.read_u32.ensures,
      ) (words_more c.loop-i.list c.loop-i.to c.args.width.bits c.loop-i.i c.args.words c.args.d.now (omega arith)) ∙ c.loop-i.invariant.3,
    )

pub shape_of-list : goal.shape_of-list
shape_of-list c = c.loop-i.invariant.2

pub returns : goal.returns
returns c =
    let z : c.args.words - c.loop-i.i ≡ 0 = omega arith in
    sym (words-none _ _ _ _ _ z) ∙ c.loop-i.invariant.3
