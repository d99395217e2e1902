-- `sfdu::reader::judge_label` meets its contract. Assumes nothing.
use mathlib.Core.Bool.{true, false}
use mathlib.Core.Path.{◌≡◌, sym, ◌∙◌}
use lib.Dec.{eqb}
use borrow.Author.Tests.{eq-eqb, ne_eqb}
use Rattle.laws.proofs.Bools.{and_split}
use Rattle.refusals.specs.Judge.{judge}
use Rattle.sfdu.specs.Read.{block_type, block_length}
use Rattle.sfdu.proofs.reader.judge_label.Goals as goal

pub returns-then-is_label : goal.returns-then-is_label
unfolding judge
returns-then-is_label c =
    let g = c.args in
    let s = g.s.now in
    let found = sym c.is_label.ensures ∙ c.if-is_label.true in
    let same = and_split (eqb (block_type s g.at) g.class) (eqb (block_length s g.at) g.size) found in
    rw (same.0, same.1)

pub returns-then-read_u16-class : goal.returns-then-read_u16-class
unfolding judge block_type
returns-then-read_u16-class c = rw (← c.read_u16.ensures, ne_eqb _ _ c.if-read_u16-class.true)

pub returns : goal.returns
unfolding judge block_type
returns c =
    let g = c.args in
    let s = g.s.now in
    let typed : eqb (block_type s g.at) g.class ≡ true = rw (← c.read_u16.ensures) (eq-eqb _ _ c.if-read_u16-class.false) in
    let other : eqb (block_length s g.at) g.size ≡ false = rw typed at (sym c.is_label.ensures ∙ c.if-is_label.false) in
    rw (typed, other)
