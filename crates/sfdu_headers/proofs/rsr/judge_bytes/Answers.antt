-- `sfdu_headers::rsr::judge_bytes` meets its contract. The invariant: the code's table is the specification's, and what is left of it
-- decides. Assumes nothing.
use native.Mathlib.Omega.{arith}
use mathlib.Core.Path.{◌≡◌, refl, ap, sym, ◌∙◌}
use Rattle.std.specs.Prelude.{Err}
use Rattle.laws.proofs.Bools.{failed, passed}
use Rattle.sfdu_headers.specs.Ranges.{judged_bytes}
use Rattle.sfdu_headers.proofs.Table.{entries, fault_from, from_start, from_end, fault-here, fault_past, at_low}
use Rattle.sfdu_headers.proofs.rsr.judge_bytes.Goals as goal

pub loop-rule-init : goal.loop-rule-init
unfolding judged_bytes
loop-rule-init c = (omega arith, refl, from_start _)

pub bounds-s-rule : goal.bounds-s-rule
bounds-s-rule c =
    omega (arith, at_low _ c.loop-rule.invariant.1 c.loop-rule.rule-index (omega arith))

pub in_range-requires : goal.in_range-requires
in_range-requires c = tt

pub returns-then-not-in_range : goal.returns-then-not-in_range
returns-then-not-in_range c =
    let s = c.args.s.now in
    let e = failed c.in_range.ensures c.if-not-in_range.true-raw in
    ap Err c.out_of_range.ensures ∙ sym (c.loop-rule.invariant.2 ∙ fault-here _ c.loop-rule.invariant.1 c.loop-rule.rule-index (omega arith) s e)

pub loop-rule-preserved : goal.loop-rule-preserved
loop-rule-preserved c =
    let s = c.args.s.now in
    let e = passed c.in_range.ensures c.if-not-in_range.false-raw in
    (omega arith, c.loop-rule.invariant.1, c.loop-rule.invariant.2 ∙ fault_past _ c.loop-rule.invariant.1 c.loop-rule.rule-index (omega arith) s e)

pub returns : goal.returns
returns c =
    let s = c.args.s.now in
    let i : c.loop-rule.rule-index ≡ entries = omega arith in
    sym (c.loop-rule.invariant.2 ∙ ap (fault_from s) i ∙ from_end s)
