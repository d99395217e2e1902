-- Laws of an answer's bytes. Assumes nothing.
use Prim.Native.Nat.{ℕ, ◌+◌, ◌*◌, ◌-◌, ◌<◌, ◌≤◌}
use native.Mathlib.Numerals.{add-one}
use native.Mathlib.Omega.{arith}
use mathlib.Core.List.{List, [], ◌∷◌, ◌++◌, append_assoc, append-nil}
use mathlib.Core.Path.{◌≡◌, refl, sym, ap, ◌∙◌}
use lib.ListN.{length, take, get_or, replicate, length-append}
use lib.Seq.{drop-length, take-suc, length-take-le}
use Rattle.octets.specs.Octets.{bytes_of, put}
use Rattle.octets.proofs.Laws.{length-bytes_of}
use Rattle.octets.proofs.Puts.{put-start, put_next}
use Rattle.answers.specs.Numbers.{number_count}
use Rattle.answers.specs.inner.Numbers.{few_count}
use Rattle.host.specs.Answer.{answer_size, number_size, answer_bytes}

-- one number more
pub answer-more : (ns : List ℕ) (n : ℕ) → answer_bytes (ns ++ n ∷ []) ≡ answer_bytes ns ++ bytes_of number_size n
unfolding answer_bytes
answer-more [] n = append-nil (bytes_of number_size n)
answer-more (m ∷ ns) n = ap (λ (l : List ℕ). bytes_of number_size m ++ l) (answer-more ns n) ∙ sym (append_assoc (bytes_of number_size m) _ _)

pub length-answer : (ns : List ℕ) → length (answer_bytes ns) ≡ number_size * length ns
unfolding answer_bytes
length-answer [] = refl
length-answer (n ∷ ns) =
    length-append (bytes_of number_size n) (answer_bytes ns) ∙ omega (arith, length-bytes_of number_size n, length-answer ns)

-- the bytes of the first i numbers put in, and those of the next behind them
pub put-more : {s t : List ℕ} (s₀ ns : List ℕ) (i : ℕ) → s ≡ put s₀ 0 (answer_bytes (take i ns)) →
    t ≡ put s (number_size * i) (bytes_of number_size (get_or ns i 0))
    → i < length ns → number_size * (i + 1) ≤ length s₀ → t ≡ put s₀ 0 (answer_bytes (take (i + 1) ns))
put-more s₀ ns i e f h room =
    let first : length (take i ns) ≡ i = length-take-le i ns (omega arith) in
    let before : length (answer_bytes (take i ns)) ≡ number_size * i = length-answer (take i ns) ∙ ap (λ (n : ℕ). number_size * n) first in
    let one = length-bytes_of number_size (get_or ns i 0) in
    let more : answer_bytes (take (i + 1) ns) ≡ answer_bytes (take i ns) ++ bytes_of number_size (get_or ns i 0) =
    rw (add-one, take-suc ns i 0 h) (answer-more (take i ns) (get_or ns i 0)) in
    rw more (put_next s₀ 0 (answer_bytes (take i ns)) (number_size * i) (bytes_of number_size (get_or ns i 0)) e f (omega arith) (omega arith))

-- the bytes of numbers that fill the slice, put in
pub put_whole : (s ns : List ℕ) → length s ≡ number_size * length ns → put s 0 (answer_bytes ns) ≡ answer_bytes ns
put_whole s ns h =
    let size : length (answer_bytes ns) ≡ length s = length-answer ns ∙ sym h in
    put-start s (answer_bytes ns) ∙ rw (size, drop-length s) (append-nil (answer_bytes ns))

-- the bytes of a few numbers put in, and zeros behind them up to the slice's end
zeros : answer_bytes (replicate (number_count - few_count) 0) ≡ replicate (answer_size - number_size * few_count) 0
unfolding answer_bytes bytes_of
zeros = refl

answer-join : (ms ns : List ℕ) → answer_bytes (ms ++ ns) ≡ answer_bytes ms ++ answer_bytes ns
unfolding answer_bytes
answer-join [] ns = refl
answer-join (m ∷ ms) ns = ap (λ (l : List ℕ). bytes_of number_size m ++ l) (answer-join ms ns) ∙ sym (append_assoc (bytes_of number_size m) _ _)

pub put-few : {t u : List ℕ} (s ns : List ℕ) → length s ≡ answer_size → length ns ≡ few_count → t ≡ put s 0 (answer_bytes ns)
    → u ≡ put t (number_size * few_count) (replicate (answer_size - number_size * few_count) 0) →
    u ≡ answer_bytes (ns ++ replicate (number_count - few_count) 0)
put-few s ns h k e f =
    let whole = ns ++ replicate (number_count - few_count) 0 in
    let count : length whole ≡ number_count = length-append ns (replicate (number_count - few_count) 0) ∙ omega (arith, k) in
    let joined : answer_bytes whole ≡ answer_bytes ns ++ replicate (answer_size - number_size * few_count) 0 =
    answer-join ns (replicate (number_count - few_count) 0) ∙ ap (λ (l : List ℕ). answer_bytes ns ++ l) zeros in
    let first = length-answer ns in
    put_next s 0 (answer_bytes ns) (number_size * few_count) (replicate (answer_size - number_size * few_count) 0) e f (omega (
      arith,
      first,
      k,
    )) (omega (arith, h))
    ∙ ap (λ (l : List ℕ). put s 0 l) (sym joined)
    ∙ put_whole s whole (omega (arith, h, count))
