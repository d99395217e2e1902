-- What follows from the clauses of a trace. Assumes nothing.
use Prim.Native.Nat.{ℕ, ◌≤◌}
use mathlib.Core.Bool.{true, ◌&&◌}
use mathlib.Core.List.{List}
use mathlib.Core.Path.{◌≡◌}
use lib.Dec.{eqb, leb}
use lib.ListN.{length}
use borrow.Author.Tests.{eqb-true, leb-true}
use Rattle.laws.proofs.Bools.{and_split}
use Rattle.ledger_replay.specs.Trace.{length_at, start_at, header_size, most_entries, header_number, count, entry_at, header_right, lines_right, is_trace}

pub record HeaderParts (t : List ℕ) : Type 0 where
  pub few : count t ≤ most_entries
  pub filled : length t ≡ entry_at (count t)

pub header-parts : (t : List ℕ) → header_right t ≡ true → HeaderParts t
unfolding header_right
header-parts t h =
    let size = eqb (header_number t length_at) (length t) in
    let few = leb (count t) most_entries in
    let filled = eqb (length t) (entry_at (count t)) in
    let a = and_split (size && few && filled) (eqb (header_number t start_at) header_size) h in
    let b = and_split (size && few) filled a.0 in
    record { few = leb-true (count t) most_entries (and_split size few b.0).1; filled = eqb-true (length t) (entry_at (count t)) b.1 }

pub record TraceParts (t : List ℕ) : Type 0 where
  pub long : header_size ≤ length t
  pub header : HeaderParts t
  pub lines : lines_right t ≡ true

pub trace-parts : (t : List ℕ) → is_trace t ≡ true → TraceParts t
unfolding is_trace
trace-parts t h =
    let long = leb header_size (length t) in
    let a = and_split (long && header_right t) (lines_right t) h in
    let b = and_split long (header_right t) a.0 in
    record { long = leb-true header_size (length t) b.0; header = header-parts t b.1; lines = a.1 }
