-- Traces: their bytes and entries, the trace of a log, the replay of a trace, and what holds of them.
pub mod Trace
pub mod Record
pub mod Replay
pub mod Laws
pub mod Histories
pub mod Pieces
pub mod inner
