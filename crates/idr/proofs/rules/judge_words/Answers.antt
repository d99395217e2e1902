-- `idr::rules::judge_words` meets its contract. The tests stand in the order of the rules. Assumes nothing.
use borrow.Author.Tests.{eq-eqb, ne_eqb}
use Rattle.laws.proofs.Bools.{failed, passed}
use Rattle.refusals.specs.Judge.{judge}
use Rattle.idr.proofs.rules.judge_words.Goals as goal

pub returns-then-w-ne-RECORD_WORDS : goal.returns-then-w-ne-RECORD_WORDS
unfolding judge
returns-then-w-ne-RECORD_WORDS c = rw (ne_eqb _ _ c.if-w-ne-RECORD_WORDS.true)

pub returns-then-not-is_tagged : goal.returns-then-not-is_tagged
unfolding judge
returns-then-not-is_tagged c = rw (eq-eqb _ _ c.if-w-ne-RECORD_WORDS.false, failed c.is_tagged.ensures c.if-not-is_tagged.true-raw)

pub returns-then-not-is_time : goal.returns-then-not-is_time
unfolding judge
returns-then-not-is_time c =
    rw (
      eq-eqb _ _ c.if-w-ne-RECORD_WORDS.false,
      passed c.is_tagged.ensures c.if-not-is_tagged.false-raw,
      failed c.is_time.ensures c.if-not-is_time.true-raw,
    )

pub returns-then-not-are_rates : goal.returns-then-not-are_rates
unfolding judge
returns-then-not-are_rates c =
    rw (
      eq-eqb _ _ c.if-w-ne-RECORD_WORDS.false,
      passed c.is_tagged.ensures c.if-not-is_tagged.false-raw,
      passed c.is_time.ensures c.if-not-is_time.false-raw,
      failed c.are_rates.ensures c.if-not-are_rates.true-raw,
    )

pub returns-then-not-is_block : goal.returns-then-not-is_block
unfolding judge
returns-then-not-is_block c =
    rw (
      eq-eqb _ _ c.if-w-ne-RECORD_WORDS.false,
      passed c.is_tagged.ensures c.if-not-is_tagged.false-raw,
      passed c.is_time.ensures c.if-not-is_time.false-raw,
      passed c.are_rates.ensures c.if-not-are_rates.false-raw,
      failed c.is_block.ensures c.if-not-is_block.true-raw,
    )

pub returns : goal.returns
unfolding judge
returns c =
    rw (
      eq-eqb _ _ c.if-w-ne-RECORD_WORDS.false,
      passed c.is_tagged.ensures c.if-not-is_tagged.false-raw,
      passed c.is_time.ensures c.if-not-is_time.false-raw,
      passed c.are_rates.ensures c.if-not-are_rates.false-raw,
      passed c.is_block.ensures c.if-not-is_block.false-raw,
    )
