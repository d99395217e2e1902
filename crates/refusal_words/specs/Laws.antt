-- What holds of the table of texts. Assumes nothing.
-- The manual, docs/INTERFACE.md: "The refusal table".
use Rattle.std.specs.Prelude.{ℕ, ◌≤◌, ◌≢◌, ◌≡◌, length}
use Rattle.refusals.specs.Table.{number_of}
use Rattle.refusals.specs.declared.Refusal.{Refusal}
use Rattle.refusal_words.specs.Texts.{unknown, text_of}

-- Each number of the refusal table has a text of its own, and any other number says that it is none of the table; no text is too long for a
-- slice of 200 bytes with its zero byte.
pub record TextsRight : Type 0 where
  pub different : (r s : Refusal) → text_of (number_of r) ≡ text_of (number_of s) → r ≡ s
  pub told : (r : Refusal) → text_of (number_of r) ≢ unknown
  pub others : (n : ℕ) → ((r : Refusal) → number_of r ≢ n) → text_of n ≡ unknown
  pub short : (n : ℕ) → length (text_of n) ≤ 199
