-- Request 09, "What I haven't saved is mine", for sheets: two lists of calls, each on a sheet that `fresh` made, each call on the sheet as the call
-- before left it. Like demand 3, it uses only what the calls' contracts promise. Assumes nothing.
-- The manual, docs/INTERFACE.md: "Calls on the ledger".
use Rattle.std.specs.Prelude.{ℕ, ◌≡◌, ◌≢◌, List, map}
use Rattle.octets.specs.Octets.{part}
use Rattle.ledger_model.specs.Step.{Entry, call_of}
use Rattle.ledger_model.specs.Chain.{Chain}
use Rattle.ledger_model.specs.Private.{without_own_log, SameBut}
use Rattle.ledger_sheet.specs.Sheet.{worked_at, desk_size, desk_at}
use Rattle.ledger_layout.specs.Demand3.{header_and_rows}
use Rattle.ledger.specs.Demand3.{MadeFresh, Promised}

-- A history: calls on a sheet that `fresh` made, with their answers; they leave the sheet `last`.
pub record History (log : List Entry) (last : List ℕ) : Type 0 where
  pub slice : List ℕ
  pub start : List ℕ
  pub made-fresh : MadeFresh slice start
  pub calls_made : Chain Promised start log last

-- The bytes of desk e; and those before its worked copy: whether it is open, its row, and the row as opened.
abbrev pub desk_part : List ℕ → ℕ → List ℕ
desk_part s e = part s (desk_at e) desk_size

abbrev pub opened_part : List ℕ → ℕ → List ℕ
opened_part s e = part s (desk_at e) worked_at

pub record Private (d : ℕ) (left right : List Entry) (left-last right-last : List ℕ) : Type 0 where
  -- Every call gets the same answer, except desk d's own calls: its ticks, its unticks, and its question how many are not saved.
  pub answers-same : without_own_log d left ≡ without_own_log d right
  -- The header and the rows are the same, byte for byte. So are the other desks, and desk d except for its worked copy.
  pub rows_same : header_and_rows left-last ≡ header_and_rows right-last
  pub desks_same : (e : ℕ) → e ≢ d → desk_part left-last e ≡ desk_part right-last e
  pub opened_same : opened_part left-last d ≡ opened_part right-last d

-- This holds of every number d, also of 8 and more.
abbrev pub Privacy : Type 0
Privacy =
    (d : ℕ) (left right : List Entry) (left-last right-last : List ℕ) → History left left-last → History right right-last
    → SameBut d (map call_of left) (map call_of right) → Private d left right left-last right-last
