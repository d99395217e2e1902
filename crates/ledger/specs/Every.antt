-- Every list of calls can be made on a sheet that `fresh` made, each call keeping its contract. So demand 3 speaks about all lists of calls. Assumes nothing.
use Rattle.std.specs.Prelude.{ℕ, ◌≡◌, List, map}
use Rattle.ledger_model.specs.Step.{Call, Entry, call_of}
use Rattle.ledger_model.specs.Chain.{Chain}
use Rattle.ledger.specs.Demand3.{MadeFresh, Promised}

-- The calls with their answers, and the sheet that they leave.
pub record CanBeMade (start : List ℕ) (calls : List Call) : Type 0 where
  pub log : List Entry
  pub last : List ℕ
  pub of_these : map call_of log ≡ calls
  pub made : Chain Promised start log last

abbrev pub EveryListOfCalls : Type 0
EveryListOfCalls = (s start : List ℕ) → MadeFresh s start → (calls : List Call) → CanBeMade start calls
