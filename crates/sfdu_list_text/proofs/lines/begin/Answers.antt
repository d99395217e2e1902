-- `sfdu_list_text::lines::begin` meets its contract: the first line is `heading`. Assumes nothing.
use Prim.Native.Nat.{ℕ}
use mathlib.Core.Bool.{false}
use mathlib.Core.Path.{ap}
use Rattle.sfdu_list_text.specs.Text.{heading}
use borrow.Author.Rules.{rules}
use Rattle.sfdu_list_text.proofs.lines.begin.Goals as goal

pub put_text-end-requires : goal.put_text-end-requires
unfolding heading
put_text-end-requires c = search rules

pub returns : goal.returns
unfolding heading
returns c =
    let p = c.put_text-end.ensures in
    (ap (λ (n : ℕ). record { place = 0; have = 0; text = n; done = false }) p.end, p)
