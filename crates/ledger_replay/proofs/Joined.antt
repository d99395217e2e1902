-- Two traces joined are a trace, with the entries of both. Assumes nothing.
use Prim.Native.Nat.{ℕ, zero, suc, ◌+◌, ◌-◌, ◌*◌, ◌^◌, ◌<◌, ◌≤◌}
use native.Mathlib.Nat.{add-zero, zero-add, suc-add}
use native.Mathlib.Omega.{arith}
use mathlib.Core.Bool.{Bool, true, false}
use mathlib.Core.List.{List, ◌∷◌, ◌++◌}
use mathlib.Core.Path.{◌≡◌, refl, sym, ap, ◌∙◌}
use lib.Dec.{ltb, lit<}
use lib.ListN.{length, get_or, length-append}
use borrow.Author.Tests.{eq-eqb, le-leb, ltb-true, ltb-false}
use Rattle.octets.proofs.Laws.{length_part, all-at, all-each}
use Rattle.octets.proofs.Parts.{part-first, part-second}
use Rattle.ledger_model.specs.Step.{Entry}
use Rattle.ledger_layout.proofs.Parts.{part-within}
use Rattle.ledger_replay.specs.Trace.{number_size, header_size, most_entries, entry_size, header_number, count, entry_at}
use Rattle.ledger_replay.specs.Trace.{line_at, header_right, line_right, lines_right, is_trace, entry_in, entries_from, entries_of}
use Rattle.ledger_replay.specs.Record.{trace_header}
use Rattle.ledger_replay.specs.Pieces.{entry_bytes, joined, JoinedIsTrace}
use Rattle.ledger_replay.proofs.Clauses.{trace-parts}
use Rattle.ledger_replay.proofs.Lines.{line-within}
use Rattle.ledger_replay.proofs.Written.{length-header, numbers, header-number}

-- ---- entries

entries-alike : (t u : List ℕ) (n j k : ℕ) → ((i : ℕ) → i < n → line_at t (entry_at (j + i)) ≡ line_at u (entry_at (k + i)))
    → entries_from t j n ≡ entries_from u k n
unfolding entries_from
entries-alike t u zero j k h = refl
entries-alike t u (suc n) j k h =
    let first : line_at t (entry_at j) ≡ line_at u (entry_at k) = rw (add-zero, add-zero) at (h 0 (omega arith)) in
    let rest = entries-alike t u n (suc j) (suc k) (λ i l.
    let one : suc j + i ≡ j + suc i = omega arith in
    let other : suc k + i ≡ k + suc i = omega arith in
    rw (one, other) (h (suc i) (omega arith))) in
    rw (first, rest)

entries-split : (t : List ℕ) (m n k : ℕ) → entries_from t k (m + n) ≡ entries_from t k m ++ entries_from t (k + m) n
unfolding entries_from
entries-split t zero n k = rw (zero-add, add-zero)
entries-split t (suc m) n k =
    let on : suc k + m ≡ k + suc m = omega arith in
    rw suc-add (ap (λ (es : List Entry). entry_in (line_at t (entry_at k)) ∷ es) (rw on at (entries-split t m n (suc k))))

-- ---- the joined trace

module _ (first second : List ℕ) (h : is_trace first ≡ true) (g : is_trace second ≡ true) (few : count first + count second ≤ most_entries) where
  abbrev m : ℕ
  m = count first

  abbrev n : ℕ
  n = count second

  abbrev header : List ℕ
  header = trace_header (m + n)

  first-long : length (entry_bytes first) ≡ entry_size * m
  first-long = length_part first header_size (entry_size * m) (omega (arith, (trace-parts first h).header.filled))

  second-long : length (entry_bytes second) ≡ entry_size * n
  second-long = length_part second header_size (entry_size * n) (omega (arith, (trace-parts second g).header.filled))

  whole_long : length (joined first second) ≡ entry_at (m + n)
  unfolding joined
  whole_long =
      rw (length-append, length-append)
      (omega (arith, length-header (m + n), first-long, second-long))

  number_is : (k v : ℕ) → k < 3 → get_or (numbers (m + n)) k 0 ≡ v → v < 256 ^ number_size → header_number (joined first second) (number_size * k) ≡ v
  unfolding joined
  number_is k v l e f = header-number (m + n) k v (entry_bytes first ++ entry_bytes second) l e f

  count-is : count (joined first second) ≡ m + n
  count-is = number_is 1 (m + n) (lit< tt) refl (omega arith)

  is-header : header_right (joined first second) ≡ true
  unfolding header_right
  is-header =
      let long = whole_long in
      rw (
        number_is 0 (entry_at (m + n)) (lit< tt) refl (omega arith),
        number_is 2 header_size (lit< tt) refl (lit< tt),
        count-is,
        long,
        le-leb (m + n) most_entries few,
        eq-eqb (entry_at (m + n)) (entry_at (m + n)) refl,
      )

  -- Each line is the one that the first trace has, or the second.
  in-first : (k : ℕ) → k < m → line_at (joined first second) (entry_at k) ≡ line_at first (entry_at k)
  unfolding joined
  in-first k l =
      let there = length-header (m + n) in
      let long = first-long in
      line-within (joined first second) (entry_at k)
      ∙ ap (λ (t : List ℕ). line_at t 0)
      (part-second header (entry_bytes first ++ entry_bytes second) (entry_at k) (entry_size * k) entry_size (omega arith)
      ∙ part-first (entry_bytes first) (entry_bytes second) (entry_size * k) entry_size (omega arith)
      ∙ part-within first header_size (entry_size * m) (entry_size * k) entry_size (entry_at k) refl (omega arith))
      ∙ sym (line-within first (entry_at k))

  in-second : (k : ℕ) → k < n → line_at (joined first second) (entry_at (m + k)) ≡ line_at second (entry_at k)
  unfolding joined
  in-second k l =
      let there = length-header (m + n) in
      let long = first-long in
      line-within (joined first second) (entry_at (m + k))
      ∙ ap (λ (t : List ℕ). line_at t 0)
      (part-second header (entry_bytes first ++ entry_bytes second) (entry_at (m + k)) (entry_size * (m + k)) entry_size (omega arith)
      ∙ part-second (entry_bytes first) (entry_bytes second) (entry_size * (m + k)) (entry_size * k) entry_size (omega arith)
      ∙ part-within second header_size (entry_size * n) (entry_size * k) entry_size (entry_at k) refl (omega arith))
      ∙ sym (line-within second (entry_at k))

  are-lines : lines_right (joined first second) ≡ true
  unfolding lines_right
  are-lines = rw count-is (all-each (m + n) (λ k. line_right (line_at (joined first second) (entry_at k))) (λ i l. by i l (ltb i m) refl))
    where
      by : (i : ℕ) → i < m + n → (t : Bool) → ltb i m ≡ t → line_right (line_at (joined first second) (entry_at i)) ≡ true
      by i l true e =
          let below = ltb-true i m e in
          ap line_right (in-first i below) ∙ all-at m i (λ k. line_right (line_at first (entry_at k))) (trace-parts first h).lines below
      by i l false e =
          let above = ltb-false i m e in
          let j = i - m in
          let here : m + j ≡ i = omega arith in
          let inside : j < n = omega arith in
          ap (λ k. line_right (line_at (joined first second) (entry_at k))) (sym here)
          ∙ ap line_right (in-second j inside)
          ∙ all-at n j (λ k. line_right (line_at second (entry_at k))) (trace-parts second g).lines inside

  whole-is-trace : is_trace (joined first second) ≡ true
  unfolding is_trace
  whole-is-trace = rw (le-leb header_size (length (joined first second)) (omega (arith, whole_long)), is-header, are-lines)

  both-entries : entries_of (joined first second) ≡ entries_of first ++ entries_of second
  unfolding entries_of
  both-entries =
      let front = entries-alike (joined first second) first m 0 0 (λ i l. rw zero-add (in-first i l)) in
      let back = entries-alike (joined first second) second n (0 + m) 0 (λ i l. rw (zero-add, zero-add) (in-second i l)) in
      rw count-is (entries-split (joined first second) m n 0 ∙ rw (front, back))

pub joined-is-trace : JoinedIsTrace
joined-is-trace first second h g few =
    record { second_trace = g; whole_trace = whole-is-trace first second h g few; all_entries = both-entries first second h g few }
