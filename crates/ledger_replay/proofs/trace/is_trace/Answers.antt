-- `trace::is_trace` meets its contract. Assumes nothing.
use native.Mathlib.Omega.{arith}
use borrow.Author.Tests.{le-leb, lt-leb}
use Rattle.laws.proofs.Bools.{failed, passed}
use Rattle.ledger_replay.specs.Trace.{header_size, is_trace}
use Rattle.ledger_replay.proofs.Clauses.{header-parts}
use Rattle.ledger_replay.proofs.trace.is_trace.Goals as goal

pub returns-then-t-lt-HEADER : goal.returns-then-t-lt-HEADER
unfolding is_trace
returns-then-t-lt-HEADER c = rw (lt-leb header_size _ c.if-t-lt-HEADER.true)

pub returns-then-not-is_header : goal.returns-then-not-is_header
unfolding is_trace
returns-then-not-is_header c = rw (le-leb header_size _ c.if-t-lt-HEADER.false, failed c.is_header.ensures c.if-not-is_header.true-raw)

pub are_lines-requires : goal.are_lines-requires
are_lines-requires c =
    let parts = header-parts _ (passed c.is_header.ensures c.if-not-is_header.false-raw) in
    (omega arith, omega (arith, parts.filled))

pub returns : goal.returns
unfolding is_trace
returns c =
    rw (le-leb header_size _ c.if-t-lt-HEADER.false, passed c.is_header.ensures c.if-not-is_header.false-raw, ← c.are_lines.ensures)
