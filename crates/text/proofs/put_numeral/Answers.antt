-- What `io::decimal` makes is `decimal`, and a byte stands behind it. Assumes nothing.
use Rattle.std.proofs.Common.{◌+◌, ◌≤◌, ◌∙◌, subst, arith}
use Rattle.text.specs.Text.{numeral, Puts}
use Rattle.text.proofs.Decimals.{decimal-is, numeral-length}
use Rattle.text.proofs.Laid.{then-byte}
use Rattle.text.proofs.put_numeral.Goals as goal

pub returns : goal.returns
unfolding numeral
returns c =
    let d = c.decimal-k in
    let few : d.result ≤ 20 = (numeral-length _ _ 0 c.ranges.n d.ensures.len).1 in
    let e = d.ensures.digits ∙ decimal-is d.result _ d.ensures.len in
    let p = subst (Puts _ _ _ _) e c.put_text-end.ensures in
    let room : c.put_text-end.result ≤ c.args.at + 20 = omega (arith, few, d.ensures.in_bounds.0, c.put_text-end.ensures.end) in
    record { puts = then-byte _ p (omega (arith, room)); upper_bound = omega (arith, room) }
