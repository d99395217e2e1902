-- What the inner functions of the lists give. Assumes nothing.
use Rattle.std.specs.Prelude.{ℕ, true, false, cond, ◌&&◌, List, ◌∷◌, Result, MatchResult, ◌≡◌, ◌<◌, ltb}
use Rattle.sfdu_stream.specs.declared.Walked.{Walked}
use Rattle.sfdu_stream.specs.Walk.{words_of, whole, past, full}
use Rattle.sfdu_stream.specs.inner.Refusal.{refusal}
use Rattle.sfdu_stream.specs.Listing.{entry_at}
use Rattle.sfdu_lists.specs.declared.Turn.{Turn}

-- A turn at a place of a list of `size` entries, of which `count` are filled, that lists the record at the place: it is whole, and an entry is free.
pub record Lists (s : List ℕ) (at count size : ℕ) (t : Turn) : Type 0 where
  pub is_whole : whole s at ≡ true
  pub free : count < size
  pub entry : t.entry ≡ entry_at s at
  pub next : t.next ≡ past s at

-- There is no such turn, and this is the list's answer.
pub record Stops (s : List ℕ) (at count size : ℕ) (w : Walked) : Type 0 where
  pub none : whole s at && ltb count size ≡ false
  pub answer : words_of w ≡ count ∷ at ∷ cond (whole s at) full (refusal s at)

abbrev pub TurnAt : List ℕ → (at count size : ℕ) → Result Turn Walked → Type 0
TurnAt s at count size found = MatchResult found (Lists s at count size) (Stops s at count size)
