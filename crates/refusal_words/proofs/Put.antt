-- The text of a number in the table of texts, and what is left of a slice that one is written into. Assumes nothing.
use Prim.Native.Nat.{ℕ, zero, suc, ◌≤◌, ◌<◌}
use native.Mathlib.Numerals.{add-one}
use native.Mathlib.Omega.{arith}
use mathlib.Core.List.{List, [], ◌∷◌, ◌++◌, map}
use mathlib.Core.Path.{◌≡◌, refl, ap}
use borrow.Author.Tests.{le-leb, lt-leb}
use lib.ListN.{length, get_or, set, drop}
use Rattle.std.proofs.Common.{Bor}
use Rattle.refusals.specs.Judge.{judge}
use Rattle.refusal_words.specs.Texts.{text_of}
use Rattle.refusal_words.specs.Written.{write_text}

-- What the reference at a place of a list points to is the text at that place.
pub now-at : (xs : List (Bor (List ℕ))) (i : ℕ) (d : Bor (List ℕ))
    → (get_or xs i d).now ≡ get_or (map (λ (x : Bor (List ℕ)). x.now) xs) i d.now
now-at [] i d = refl
now-at (x ∷ xs) zero d = refl
now-at (x ∷ xs) (suc i) d = now-at xs i d

pub in-range : (ts : List (List ℕ)) (i : ℕ) (d e : List ℕ) → i < length ts → get_or ts i d ≡ get_or ts i e
in-range [] i d e h = absurd (omega arith)
in-range (t ∷ ts) zero d e h = refl
in-range (t ∷ ts) (suc i) d e h = in-range ts i d e (omega arith)

-- A text and a zero byte, put at the start.
ended : (t s : List ℕ) → length t < length s → set (t ++ drop (length t) s) (length t) 0 ≡ t ++ 0 ∷ drop (suc (length t)) s
ended [] [] h = absurd (omega arith)
ended [] (x ∷ s) h = refl
ended (c ∷ t) [] h = absurd (omega arith)
ended (c ∷ t) (x ∷ s) h = ap (λ (l : List ℕ). c ∷ l) (ended t s (omega arith))

-- What the call answers and leaves, where the slice is too short and where it is not.
pub too_short : (number : ℕ) (out t : List ℕ) → t ≡ text_of number → length out ≤ length t
    → ◌≡◌ {A = List ℕ × List ℕ} (61 ∷ [], out) (write_text number out)
unfolding write_text judge
too_short number out t e h = rw (← e, le-leb (length out) (length t) h) refl

pub written-text : (number : ℕ) (out t t' : List ℕ) → t ≡ text_of number → t' ≡ t → length t < length out
    → ◌≡◌ {A = List ℕ × List ℕ} (0 ∷ length t ∷ [], set (t' ++ drop (length t) out) (length t) 0) (write_text number out)
unfolding write_text judge
written-text number out t t' e f h = rw (← e, f, ended t out h, lt-leb (length out) (length t) h, add-one) refl
