-- `are_keys_new` meets its contract. The invariant: the keys of the first sheets are read. Assumes nothing.
use mathlib.Core.Path.{◌≡◌, refl, ap, ◌∙◌}
use lib.ListN.{take}
use Rattle.std.proofs.Math.Seq.{take-length}
use Rattle.ledger_season.specs.inner.Gathered.{distinct}
use native.Mathlib.Omega.{arith}
use Rattle.ledger_season.proofs.Sheets.{length-sheet}
use Rattle.ledger_season.proofs.Keys.{all-keyed-none, all-keyed-more, all-keyed, new-distinct}
use Rattle.ledger_season.proofs.are_keys_new.Goals as goal

pub loop-k-init : goal.loop-k-init
loop-k-init c = (omega arith, all-keyed-none _ _ _ refl)

pub read_keys-found-requires : goal.read_keys-found-requires
read_keys-found-requires c =
    let g = c.args in
    let at = c.loop-k.invariant.1 in
    let long = length-sheet g.s.now g.n c.loop-k.k (omega arith) c.requires.1 in
    (rw c.sheet_of.ensures long, at.long, omega (arith, at.few))

pub loop-k-preserved : goal.loop-k-preserved
loop-k-preserved c =
    let s = c.args.s.now in
    (omega arith, all-keyed-more s _ _ _ c.loop-k.k (omega arith) c.loop-k.invariant.1 _ _ (rw c.sheet_of.ensures at c.read_keys-found.ensures))

pub returns : goal.returns
returns c =
    let g = c.args in
    let end : c.loop-k.k ≡ g.n = omega arith in
    let at = rw end at c.loop-k.invariant.1 in
    c.are_new.ensures
    ∙ new-distinct (take c.loop-k.found c.loop-k.keys) _ (omega arith)
    ∙ ap distinct (take-length _ ∙ all-keyed g.s.now g.n _ _ at)
