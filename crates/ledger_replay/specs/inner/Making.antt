-- Definitions that only the contracts of the inner functions of `replay` cite. Assumes nothing.
use Rattle.std.specs.Prelude.{ℕ, List, ◌≡◌}
use Rattle.ledger_model.specs.Book.{Book}
use Rattle.ledger_model.specs.Step.{Call, answer_words}
use Rattle.ledger_model.specs.WellFormed.{WellFormed}
use Rattle.ledger_layout.specs.Layout.{layout, call, on_sheet}
use Rattle.ledger_replay.specs.Trace.{Line}
use Rattle.ledger_replay.specs.Trace.{answer_in}
use Rattle.ledger_replay.specs.Replay.{CallAnswer, call_answer}

-- What a replay compares of the call's answer, and the sheet that the call leaves.
unfoldable pub made : Call → List ℕ → CallAnswer × List ℕ
made c s = (call_answer (on_sheet (call c) s).0, (on_sheet (call c) s).1)

-- What a replay compares of the answer in the entry.
unfoldable pub written : Line → CallAnswer
written x = call_answer (answer_words (answer_in x))

-- The sheet is the layout of a well-formed book, as `fresh` and every call leave it.
pub record IsLaid (s : List ℕ) : Type 0 where
  pub book : Book
  pub fine : WellFormed book
  pub laid_out : s ≡ layout book
