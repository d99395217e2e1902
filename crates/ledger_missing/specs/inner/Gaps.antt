-- The unticked positions of a row, in the order in which the code finds them in its blocks. Assumes nothing.
use Rattle.std.specs.Prelude.{ℕ, zero, suc, ◌+◌, ◌/◌, ◌%◌, ◌≡◌, Bool, cond, List, [], ◌∷◌, eqb, ltb, length}
use Rattle.std.proofs.lemmas.List.Edits.{sets}
use Rattle.ledger_layout.specs.Ticks.{ticked_at}
use Rattle.ledger_counts.specs.inner.Counts.{number_at_position}
use Rattle.ledger_missing.specs.Missing.{fills}

-- f of each of the n numbers from i on that do not satisfy p.
unfoldable pub except : (p : ℕ → Bool) (f : ℕ → ℕ) (i n : ℕ) → List ℕ
except p f i zero = []
except p f i (suc n) = cond (p i) (except p f (suc i) n) (f i ∷ except p f (suc i) n)

-- The numbers at the unticked positions, among n positions from i on, of the row at offset a.
abbrev pub gaps_in : List ℕ → (a i n : ℕ) → List ℕ
gaps_in s a i n = except (ticked_at s a) (number_at_position s a) i n

-- f of the index of each one among the n lowest bits of x, lowest first.
unfoldable pub numbers_at : (f : ℕ → ℕ) (n x : ℕ) → List ℕ
numbers_at f zero x = []
numbers_at f (suc n) x = cond (eqb (x % 2) 1) (f 0 ∷ numbers_at (λ i. f (suc i)) n (x / 2)) (numbers_at (λ i. f (suc i)) n (x / 2))

-- `new` is `old` with xs written from index `from` on, and r is the index behind xs.
pub record Stored (old : List ℕ) (from : ℕ) (xs new : List ℕ) (r : ℕ) : Type 0 where
  pub put : new ≡ sets old from xs
  pub past : r ≡ from + length xs

-- The outcome of putting xs into a lent list: 60 if the list is too short.
unfoldable pub listed : (xs old : List ℕ) → List ℕ × List ℕ
listed xs old = cond (ltb (length old) (length xs)) (60 ∷ [], old) (0 ∷ length xs ∷ [], fills xs old)
