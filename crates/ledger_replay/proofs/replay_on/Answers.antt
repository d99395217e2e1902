-- `replay_on` meets its contract. Assumes nothing.
use native.Mathlib.Omega.{arith}
use Rattle.refusals.specs.Judge.{judge}
use Rattle.laws.proofs.Bools.{failed, passed}
use Rattle.ledger_sheet.specs.Outcome.{refused_or}
use Rattle.ledger_replay.specs.Replay.{replay_on_sheet}
use Rattle.ledger_replay.proofs.Clauses.{trace-parts}
use Rattle.ledger_replay.proofs.Turns.{right-laid}
use Rattle.ledger_replay.proofs.replay_on.Goals as goal

pub returns-then-not-is_sheet : goal.returns-then-not-is_sheet
unfolding replay_on_sheet refused_or judge
returns-then-not-is_sheet c = rw (failed c.is_sheet.ensures c.if-not-is_sheet.true-raw)

pub returns-then-not-is_trace : goal.returns-then-not-is_trace
unfolding replay_on_sheet refused_or judge
returns-then-not-is_trace c =
    rw (passed c.is_sheet.ensures c.if-not-is_sheet.false-raw, failed c.is_trace.ensures c.if-not-is_trace.true-raw)

pub play-requires : goal.play-requires
play-requires c =
    let parts = trace-parts _ (passed c.is_trace.ensures c.if-not-is_trace.false-raw) in
    let laid = right-laid _ c.slice_known-1.given (passed c.is_sheet.ensures c.if-not-is_sheet.false-raw) in
    record { whole = (parts.long, omega (arith, parts.header.filled), parts.header.few); lines = parts.lines; laid = laid }

pub returns : goal.returns
unfolding replay_on_sheet refused_or judge
returns c =
    rw (passed c.is_sheet.ensures c.if-not-is_sheet.false-raw, passed c.is_trace.ensures c.if-not-is_trace.false-raw)
    c.play.ensures
