-- `read_keys` meets its contract. The invariant: the keys of the first rows are read. Assumes nothing.
use Prim.Native.Nat.{◌<◌}
use mathlib.Core.Path.{◌≡◌, sym, ◌∙◌}
use native.Mathlib.Omega.{arith}
use lib.ListN.{length}
use Rattle.ledger_sheet.specs.Sheet.{row_count}
use Rattle.ledger_season.proofs.Keys.{keyed-none, keyed-free, keyed-used, keyed-all}
use Rattle.ledger_season.proofs.read_keys.Goals as goal
use Rattle.ledger_season.proofs.read_keys.Goals.{then-is_used, else-is_used}

pub loop-i-init : goal.loop-i-init
loop-i-init c = (omega arith, keyed-none _ _ _)

pub bounds-keys-count : goal.bounds-keys-count
bounds-keys-count c =
    omega (arith, c.loop-i.invariant.1.few)

pub overflow_add-count : goal.overflow_add-count
overflow_add-count c =
    omega (arith, c.loop-i.invariant.1.few)

pub loop-i-preserved : goal.loop-i-preserved
loop-i-preserved c =
    let word = c.is_used.ensures in
    let g = c.args in
    let at = c.loop-i.invariant.1 in
    elim c.if-is_used.branch [
      | then-is_used w ↦
          let room : c.loop-i.count < length g.keys.now = omega (arith, at.few) in
          let key = rw w.row_at.ensures at w.key_at.ensures in
          (omega arith, rw (w.keys-is, w.count-is) (keyed-used _ _ _ _ _ _ (omega arith) at _ room key (sym word ∙ w.if-is_used.true)))
      | else-is_used w ↦ (omega arith, rw (w.keys-is, w.count-is) (keyed-free _ _ _ _ _ _ (omega arith) at (sym word ∙ w.if-is_used.false)))
    ]

pub returns : goal.returns
returns c =
    let end : c.loop-i.i ≡ row_count = omega arith in
    keyed-all _ _ _ _ _ (rw end at c.loop-i.invariant.1)
