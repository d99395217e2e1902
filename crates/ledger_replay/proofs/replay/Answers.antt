-- `replay` meets its contract. Assumes nothing.
use mathlib.Core.Path.{ap, ◌∙◌}
use native.Mathlib.Omega.{arith}
use borrow.Author.Tests.{eq-eqb, ne_eqb}
use Rattle.laws.proofs.Bools.{failed, passed}
use Rattle.refusals.specs.Judge.{judge}
use Rattle.ledger_sheet.specs.Outcome.{refused_or}
use Rattle.ledger_replay.specs.Trace.{entries_of}
use Rattle.ledger_replay.specs.Replay.{replay_from, replay_on}
use Rattle.ledger_replay.proofs.Clauses.{trace-parts}
use Rattle.ledger_replay.proofs.Turns.{never-refused, fresh-laid}
use Rattle.ledger_replay.proofs.replay.Goals as goal

pub returns-then-s-ne-SHEET : goal.returns-then-s-ne-SHEET
unfolding replay_on refused_or judge
returns-then-s-ne-SHEET c = rw (ne_eqb _ _ c.if-s-ne-SHEET.true)

pub returns-then-not-is_trace : goal.returns-then-not-is_trace
unfolding replay_on refused_or judge
returns-then-not-is_trace c = rw (eq-eqb _ _ c.if-s-ne-SHEET.false, failed c.is_trace.ensures c.if-not-is_trace.true-raw)

pub returns-in_err-fresh : goal.returns-in_err-fresh
returns-in_err-fresh c = absurd (never-refused _ _ c.in_err-fresh.field-0.0 c.if-s-ne-SHEET.false c.in_err-fresh.ensures)

pub play-requires : goal.play-requires
play-requires c =
    let parts = trace-parts _ (passed c.is_trace.ensures c.if-not-is_trace.false-raw) in
    let laid = fresh-laid _ _ _ c.if-s-ne-SHEET.false c.fresh.ensures in
    record { whole = (parts.long, omega (arith, parts.header.filled), parts.header.few); lines = parts.lines; laid = laid }

pub returns : goal.returns
unfolding replay_on refused_or judge
returns c =
    let t = c.args.t.now in
    rw (eq-eqb _ _ c.if-s-ne-SHEET.false, passed c.is_trace.ensures c.if-not-is_trace.false-raw)
    (c.play.ensures ∙ ap (λ s. replay_from 0 (entries_of t) s) (ap (λ o. o.1) c.fresh.ensures))
