-- A promise of a function's contract: the caller must show nothing, and what it learns gives the promise. If a `requires` is added, or an `ensures`
-- says less, this has no proof. Assumes nothing.
use Prim.Native.Nat.{ℕ}
use mathlib.Core.List.{List}
use contract.Lifetimes.{Lfts}
use denote.Triple.Clauses.{AtExit}
use borrow.Fn.Kinds.{ParamKind, ResultKind, In, Out, Dens, GoodsP, res_t, ended_of}

-- For a function with n lifetimes, parameters ps and result r. `asked` and `learnt` are the two sides of its contract (`Asked` and `Learnt` of its
-- `Reads`); a is the arguments, x the result, e the parameters at exit.
pub record Keeps (n : ℕ) (ps : List (ParamKind n)) (r : ResultKind n) (asked : In n ps) (learnt promised : Out n ps r) : Type 0 where
  pub asks_nothing : (κs : Lfts n) (a : Dens κs ps) → asked κs a
  pub gives : (κs : Lfts n) (a : Dens κs ps) (x : (res_t r κs).Denot) (e : AtExit (ended_of n ps r) κs) → GoodsP κs ps a → learnt κs a x e
      → promised κs a x e
