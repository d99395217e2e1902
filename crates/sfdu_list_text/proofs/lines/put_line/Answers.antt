-- `sfdu_list_text::lines::put_line` meets its contract: four texts, each put behind the one before. Assumes nothing.
use native.Mathlib.Omega.{arith}
use lib.Dec.{lit<}
use Rattle.sfdu_list_text.specs.Text.{line}
use Rattle.text.specs.Text.{space, line_end}
use Rattle.text.proofs.Decimals.{numeral-short}
use Rattle.text.proofs.Laid.{then}
use Rattle.sfdu_list_text.proofs.lines.put_line.Goals as goal

pub put_numeral-a-requires : goal.put_numeral-a-requires
put_numeral-a-requires c =
    let p = numeral-short 20 c.args.place space (lit< tt) (omega (arith, c.ranges.place.fits)) in
    omega arith

pub put_numeral-b-requires : goal.put_numeral-b-requires
put_numeral-b-requires c =
    let p = numeral-short 20 c.args.place space (lit< tt) (omega (arith, c.ranges.place.fits)) in
    let z = numeral-short 5 c.args.size space (lit< tt) (omega arith) in
    omega (arith, c.put_numeral-a.ensures.puts.end)

pub put_letter-c-requires : goal.put_letter-c-requires
put_letter-c-requires c =
    let p = numeral-short 20 c.args.place space (lit< tt) (omega (arith, c.ranges.place.fits)) in
    let z = numeral-short 5 c.args.size space (lit< tt) (omega arith) in
    omega (arith, c.put_numeral-b.ensures.puts.end, c.put_numeral-a.ensures.puts.end)

pub put_numeral-requires : goal.put_numeral-requires
put_numeral-requires c =
    let p = numeral-short 20 c.args.place space (lit< tt) (omega (arith, c.ranges.place.fits)) in
    let z = numeral-short 5 c.args.size space (lit< tt) (omega arith) in
    let n = numeral-short 10 c.args.number line_end (lit< tt) (omega (arith, c.ranges.number.fits)) in
    omega (arith, c.put_letter-c.ensures.end, c.put_numeral-b.ensures.puts.end, c.put_numeral-a.ensures.puts.end)

pub returns : goal.returns
unfolding line
returns c =
    let p = numeral-short 20 c.args.place space (lit< tt) (omega (arith, c.ranges.place.fits)) in
    let z = numeral-short 5 c.args.size space (lit< tt) (omega arith) in
    let n = numeral-short 10 c.args.number line_end (lit< tt) (omega (arith, c.ranges.number.fits)) in
    let a = c.put_numeral-a.ensures.puts in
    let b = c.put_numeral-b.ensures.puts in
    let l = c.put_letter-c.ensures in
    let d = c.put_numeral.ensures.puts in
    record {
      puts = then (then (then a b (omega (arith, a.end, b.end))) l (omega (arith, a.end, b.end, l.end))) d (omega (arith, a.end, b.end, l.end, d.end));
      upper_bound = omega (arith, a.end, b.end, l.end, d.end);
    }
