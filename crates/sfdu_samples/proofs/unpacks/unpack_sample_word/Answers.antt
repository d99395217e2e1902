-- `sfdu_samples::unpacks::unpack_sample_word` meets its contract. The invariant: the pairs that are left, stored, give
-- the result. Assumes nothing.
use Rattle.std.proofs.Common.{◌≡◌, ◌+◌, ◌-◌, ◌*◌, ◌/◌, ◌%◌, ◌^◌, sym, refl, ◌∙◌, add-zero, arith, length-set, w32}
use borrow.Author.Rules.{sfits_of}
use mir.ValLaws.{to_z-of_z}
use Rattle.sfdu_samples.specs.Packing.{per_half, half_sample_word}
use Rattle.sfdu_samples.proofs.Flipped.{half-bits, Turn, turn}
use Rattle.sfdu_samples.proofs.Unpacking.{pair-none, pair-more, word_first}
use Rattle.sfdu_samples.proofs.unpacks.unpack_sample_word.Goals as goal
use Rattle.sfdu_samples.proofs.unpacks.unpack_sample_word.Goals.{In-loop-k}

-- A turn of the loop.
turned : (c : In-loop-k) → Turn c.args.width.bits (per_half c.args.width.bits - c.loop-k.k) c.args.word
turned c =
    turn c.args.width.bits (per_half c.args.width.bits - c.loop-k.k) c.args.word c.args.width.fills (omega arith) (omega arith)

pub loop-k-init : goal.loop-k-init
loop-k-init c =
    let w = c.args.width.bits in
    let all-of-them : per_half w - 0 ≡ per_half w = omega arith in
    (omega arith, rw (all-of-them, half-bits w c.args.width.fills) refl, refl, rw (all-of-them, add-zero) (word_first _ _ _ _))

pub overflow_sub-up : goal.overflow_sub-up
overflow_sub-up c = let t = turned (goal.at.overflow_sub-up c).In-loop-k in omega (arith, t.some, c.loop-k.invariant.1)

pub sample-requires : goal.sample-requires
sample-requires c = let t = turned (goal.at.sample-requires c).In-loop-k in omega (arith, t.some, t.most, c.loop-k.invariant.1)

pub overflow_sub-up-in-loop-k : goal.overflow_sub-up-in-loop-k
overflow_sub-up-in-loop-k c = let t = turned (goal.at.overflow_sub-up-in-loop-k c).In-loop-k in omega (arith, t.some, c.loop-k.invariant.1)

pub sample-requires-in-loop-k : goal.sample-requires-in-loop-k
sample-requires-in-loop-k c =
    let t = turned (goal.at.sample-requires-in-loop-k c).In-loop-k in
    omega (arith, t.some, t.most, c.loop-k.invariant.1)

pub loop-k-preserved : goal.loop-k-preserved
loop-k-preserved c =
    let w = c.args.width.bits in
    let left = per_half w - c.loop-k.k in
    let done = 2 ^ (w * (per_half w - left)) in
    let t = turned (goal.at.loop-k-preserved c).In-loop-k in
    let real = to_z-of_z w32 c.sample.result (sfits_of c.sample.type_inv) in
    let imaginary = to_z-of_z w32 c.sample-in-loop-k.result (sfits_of c.sample-in-loop-k.type_inv) in
    let to = c.args.at + 2 * c.loop-k.k in
    let next-left : per_half w - (c.loop-k.k + 1) ≡ left - 1 = omega arith in
    let next-to : c.args.at + 2 * (c.loop-k.k + 1) ≡ to + 2 = omega arith in
    let more = pair-more c.loop-k.list to w left (c.args.word % half_sample_word / done) (c.args.word / half_sample_word / done) (omega arith) in (
      omega arith,
      rw next-left (omega (arith, t.up, c.loop-k.invariant.1)),
      simp length-set c.loop-k.invariant.2,
      rw (
        next-left,
        next-to,
        real,
        imaginary,
        c.sample.ensures,
        c.sample-in-loop-k.ensures,
        c.loop-k.invariant.1,
        t.i,
        t.q,
        ← t.next,
        ← t.next,
      ) more ∙ c.loop-k.invariant.3,
    )

pub shape_of-list : goal.shape_of-list
shape_of-list c = c.loop-k.invariant.2

pub returns : goal.returns
returns c =
    let z : per_half c.args.width.bits - c.loop-k.k ≡ 0 = omega arith in
    sym (pair-none _ _ _ _ _ _ z) ∙ c.loop-k.invariant.3
