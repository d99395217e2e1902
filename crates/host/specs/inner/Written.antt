-- What the inner functions write. Assumes nothing.
use Rattle.std.specs.Prelude.{ℕ, List, ◌≡◌, get_or}
use Rattle.host.specs.Answer.{answer_bytes}

-- The returned number and the answer's slice after the call, if these are all the numbers of the answer.
abbrev pub Written : ℕ → (left numbers : List ℕ) → Type 0
Written r left numbers = (r ≡ get_or numbers 0 0) × (left ≡ answer_bytes numbers)
