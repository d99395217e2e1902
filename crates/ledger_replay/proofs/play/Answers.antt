-- `play` meets its contract. The invariant: playing the entries from i on over the current sheet gives what playing all of them over the first sheet
-- gives; and the sheet is the layout of a book. Assumes nothing.
use Prim.Native.Nat.{suc, ◌+◌, ◌-◌}
use native.Mathlib.Omega.{arith}
use mathlib.Core.Path.{◌≡◌, refl, sym, ap, ◌∙◌}
use Rattle.laws.proofs.Bools.{failed, passed}
use Rattle.octets.proofs.Laws.{all-at}
use Rattle.ledger_replay.specs.Trace.{count, entry_at, line_at, lines_right}
use Rattle.ledger_replay.specs.inner.Numbered.{numbers_of}
use Rattle.ledger_replay.proofs.Turns.{start, differs-is, same-on, differs-there, all_same, laid-right, laid_next}
use Rattle.ledger_replay.proofs.Numbered.{line-read, line-there}
use Rattle.ledger_replay.proofs.play.Goals as goal
use Rattle.ledger_replay.proofs.play.Goals.{After-unwrap-x}

pub loop-i-init : goal.loop-i-init
loop-i-init c = (omega arith, refl, c.requires.laid, start _ _ _ c.entry_count-entries.ensures)

pub unwrap-x-requires : goal.unwrap-x-requires
unfolding lines_right
unwrap-x-requires c =
    let t = c.args.t.now in
    let right = all-at (count t) c.loop-i.i _ c.requires.lines (omega (arith, c.entry_count-entries.ensures)) in
    rw c.read_line.ensures (line-there (line_at t (entry_at c.loop-i.i)) right)

pub make-answer-requires : goal.make-answer-requires
make-answer-requires c = laid-right _ c.loop-i.invariant.2

-- The entry as it is read.
read : (c : After-unwrap-x) → numbers_of c.unwrap-x.result ≡ line_at c.args.t.now (entry_at c.loop-i.i)
read c = line-read _ _ (sym c.read_line.ensures ∙ c.unwrap-x.ensures)

pub returns-then-not-is_written : goal.returns-then-not-is_written
returns-then-not-is_written c =
    let left : c.entry_count-entries.result - c.loop-i.i ≡ suc (c.entry_count-entries.result - (c.loop-i.i + 1)) = omega arith in
    let differs = failed c.is_written.ensures c.if-not-is_written.true-raw in
    ap (λ ws. (ws, c.make-answer.new.s)) (differs-is c.loop-i.i c.make-answer.result)
    ∙ differs-there _ _ _ c.loop-i.i _ _ _ _ (read (goal.at.returns-then-not-is_written c).After-unwrap-x) c.make-answer.ensures left differs
    ∙ c.loop-i.invariant.3

pub loop-i-preserved : goal.loop-i-preserved
loop-i-preserved c =
    let left : c.entry_count-entries.result - c.loop-i.i ≡ suc (c.entry_count-entries.result - (c.loop-i.i + 1)) = omega arith in
    let there = read (goal.at.loop-i-preserved c).After-unwrap-x in
    let same = passed c.is_written.ensures c.if-not-is_written.false-raw in
    let laid = laid_next _ _ _ _ c.loop-i.invariant.2 c.make-answer.ensures in
    (omega arith, omega arith, laid, same-on _ _ _ c.loop-i.i _ _ _ _ there c.make-answer.ensures left same ∙ c.loop-i.invariant.3)

pub returns : goal.returns
returns c =
    all_same _ _ c.loop-i.i _ (omega arith) ∙ c.loop-i.invariant.3
