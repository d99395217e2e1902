-- `sfdu_list_text::lines::put_numbers` meets its contract: three texts, one behind the other. Assumes nothing.
use native.Mathlib.Omega.{arith}
use mathlib.Core.List.{append_assoc}
use lib.Dec.{lit<}
use Rattle.sfdu_list_text.specs.Text.{numbers_line, last_line}
use Rattle.text.specs.Text.{space, line_end}
use Rattle.text.proofs.Decimals.{numeral-short}
use Rattle.text.proofs.Laid.{then}
use Rattle.sfdu_list_text.proofs.lines.put_numbers.Goals as goal

pub put_numeral-a-requires : goal.put_numeral-a-requires
put_numeral-a-requires c =
    let p = numeral-short 20 c.args.place space (lit< tt) (omega (arith, c.ranges.place.fits)) in
    omega arith

pub put_numeral-b-requires : goal.put_numeral-b-requires
put_numeral-b-requires c =
    let p = numeral-short 20 c.args.place space (lit< tt) (omega (arith, c.ranges.place.fits)) in
    let n = numeral-short 10 c.args.number space (lit< tt) (omega (arith, c.ranges.number.fits)) in
    omega (arith, c.put_numeral-a.ensures.puts.end)

pub put_numeral-requires : goal.put_numeral-requires
put_numeral-requires c =
    let p = numeral-short 20 c.args.place space (lit< tt) (omega (arith, c.ranges.place.fits)) in
    let n = numeral-short 10 c.args.number space (lit< tt) (omega (arith, c.ranges.number.fits)) in
    let b = numeral-short 20 c.args.beside line_end (lit< tt) (omega (arith, c.ranges.beside.fits)) in
    omega (arith, c.put_numeral-b.ensures.puts.end, c.put_numeral-a.ensures.puts.end)

pub returns : goal.returns
unfolding last_line numbers_line
returns c =
    let p = numeral-short 20 c.args.place space (lit< tt) (omega (arith, c.ranges.place.fits)) in
    let n = numeral-short 10 c.args.number space (lit< tt) (omega (arith, c.ranges.number.fits)) in
    let b = numeral-short 20 c.args.beside line_end (lit< tt) (omega (arith, c.ranges.beside.fits)) in
    let x = c.put_numeral-a.ensures.puts in
    let y = c.put_numeral-b.ensures.puts in
    let z = c.put_numeral.ensures.puts in
    record {
      puts = rw append_assoc at (then (then x y (omega (arith, x.end, y.end))) z (omega (arith, x.end, y.end, z.end)));
      upper_bound = omega (arith, x.end, y.end, z.end);
    }
