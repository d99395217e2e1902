-- Document 004, table 3-1: the 36 listed pairs in the order of the table, rate (Ksamp/sec) and size (bits/samp). Assumes nothing.
-- The manual, docs/INTERFACE.md: "Samples".
use Rattle.std.specs.Prelude.{ℕ, Bool, false, ◌&&◌, ◌||◌, List, [], ◌∷◌, ◌==◌}
use Rattle.sfdu_samples.specs.declared.rates.Listed.{Listed}

infix 40 ◌at◌
abbrev pub ◌at◌ : ℕ → ℕ → Listed
rate at size = record { rate = rate; size = size }

unfoldable pub table : List Listed
table =
    (1 at 8) ∷ (2 at 8) ∷ (4 at 8) ∷ (8 at 8) ∷ (16 at 8) ∷ (25 at 8) ∷
    (50 at 8) ∷ (100 at 8) ∷ (1 at 16) ∷ (2 at 16) ∷ (4 at 16) ∷ (8 at 16) ∷
    (16 at 16) ∷ (25 at 16) ∷ (50 at 16) ∷ (100 at 16) ∷ (250 at 1) ∷ (500 at 1) ∷
    (1000 at 1) ∷ (2000 at 1) ∷ (4000 at 1) ∷ (250 at 2) ∷ (500 at 2) ∷ (1000 at 2) ∷
    (2000 at 2) ∷ (4000 at 2) ∷ (250 at 4) ∷ (500 at 4) ∷ (1000 at 4) ∷ (2000 at 4) ∷
    (250 at 8) ∷ (500 at 8) ∷ (1000 at 8) ∷ (8000 at 1) ∷ (16000 at 1) ∷ (8000 at 2) ∷ []

unfoldable pub among : (size rate : ℕ) → List Listed → Bool
among size rate [] = false
among size rate (row ∷ rows) = row.size == size && row.rate == rate || among size rate rows

-- Whether the pair is listed.
abbrev pub is_listed : (size rate : ℕ) → Bool
is_listed size rate = among size rate table
