-- The trace of a log consists of bytes, is a trace, and reads back. Assumes nothing.
use Prim.Native.Nat.{ℕ, zero, suc, ◌+◌, ◌*◌, ◌%◌, ◌/◌, ◌^◌, ◌<◌, ◌≤◌}
use native.Mathlib.Nat.{zero-add, add-zero}
use native.Mathlib.Omega.{arith}
use mathlib.Core.Bool.{true}
use mathlib.Core.List.{List, [], ◌∷◌, ◌++◌, append-nil, append_assoc}
use mathlib.Core.Path.{◌≡◌, refl, sym, ap, ◌∙◌}
use lib.Dec.{lit<}
use lib.ListN.{length, get_or, length-append}
use borrow.Author.Tests.{eq-eqb, le-leb}
use Rattle.laws.proofs.Bools.{and_split}
use Rattle.octets.specs.Octets.{number_at, bytes_of, part}
use Rattle.octets.proofs.Laws.{length-bytes_of, all-each}
use Rattle.octets.proofs.Parts.{number-first, number-bytes}
use Rattle.ledger_model.specs.Step.{FirstGap, Ask, done, Entry, ◌⇒◌}
use Rattle.octets.specs.Lists.{laid}
use Rattle.ledger_layout.proofs.Parts.{number-within}
use Rattle.octets.proofs.Lists.{length-laid, part-laid}
use Rattle.ledger_replay.specs.Trace.{Line}
use Rattle.ledger_replay.specs.Trace.{number_size, header_size, most_entries, key_size, entry_size, header_number, count, entry_at}
use Rattle.ledger_replay.specs.Trace.{line_at, header_right, line_right, lines_right, is_trace, entry_in, entries_from, entries_of}
use Rattle.ledger_replay.specs.Record.{line_of, line_bytes, trace_header, trace_of}
use Rattle.ledger_replay.specs.Laws.{fits, all_fit, ReadsBack, WrittenReadsBack}
use Rattle.ledger_replay.proofs.Lines.{length-line, Held, line-back, line-within, good}

-- ---- bytes

abbrev Bytes : List ℕ → Type 0
Bytes s = (i : ℕ) → get_or s i 0 < 256

bytes-append : (s t : List ℕ) → Bytes s → Bytes t → Bytes (s ++ t)
bytes-append [] t b c i = c i
bytes-append (x ∷ s) t b c zero = b 0
bytes-append (x ∷ s) t b c (suc i) = bytes-append s t (λ j. b (suc j)) c i

one_byte : (x : ℕ) → x < 256 → Bytes (x ∷ [])
one_byte x l zero = l
one_byte x l (suc i) = lit< tt

bytes-of : (n v : ℕ) → Bytes (bytes_of n v)
unfolding bytes_of
bytes-of zero v i = lit< tt
bytes-of (suc n) v i = bytes-append (bytes_of n (v / 256)) (v % 256 ∷ []) (bytes-of n (v / 256)) (one_byte (v % 256) (omega arith)) i

line-bytes : (x : Line) → Held x → Bytes (line_bytes x)
unfolding line_bytes
line-bytes x h =
    bytes-append (first ++ bytes_of number_size x.number) (bytes_of key_size x.key)
    (bytes-append first (bytes_of number_size x.number) at (bytes-of number_size x.number))
    (bytes-of key_size x.key)
  where
    first : List ℕ
    first = x.call ∷ x.desk ∷ x.row ∷ x.answer ∷ []

    at : Bytes first
    at zero = h.call-byte
    at (suc zero) = h.desk-byte
    at (suc (suc zero)) = h.row-byte
    at (suc (suc (suc zero))) = h.answer-byte
    at (suc (suc (suc (suc i)))) = lit< tt

header-bytes : (n : ℕ) → Bytes (trace_header n)
unfolding trace_header
header-bytes n =
    bytes-append (bytes_of number_size (entry_at n) ++ bytes_of number_size n) (bytes_of number_size header_size)
    (bytes-append (bytes_of number_size (entry_at n)) (bytes_of number_size n) (bytes-of number_size (entry_at n)) (bytes-of number_size n))
    (bytes-of number_size header_size)

-- ---- the header

abbrev entry_bytes : Entry → List ℕ
entry_bytes e = line_bytes (line_of e)

pub length-header : (n : ℕ) → length (trace_header n) ≡ header_size
unfolding trace_header
length-header n = simp (length-append, length-bytes_of)

pub length-trace : (log : List Entry) → length (trace_of log) ≡ entry_at (length log)
unfolding trace_of
length-trace log =
    rw (length-append, length-header (length log), length-laid entry_size entry_bytes (λ e. length-line (line_of e)) log)

abbrev pub numbers : ℕ → List ℕ
numbers n = entry_at n ∷ n ∷ header_size ∷ []

header-laid : (n : ℕ) → trace_header n ≡ [] ++ laid (bytes_of number_size) (numbers n) ++ []
unfolding trace_header laid
header-laid n = simp (append_assoc, append-nil)

pub header-number : (n k v : ℕ) (rest : List ℕ) → k < length (numbers n) → get_or (numbers n) k 0 ≡ v → v < 256 ^ number_size
    → header_number (trace_header n ++ rest) (number_size * k) ≡ v
header-number n k v rest l e h =
    let a = number_size * k in
    let header = trace_header n in
    let lh = length-header n in
    let chunk : part header a number_size ≡ bytes_of number_size v =
    ap (λ (t : List ℕ). part t a number_size) (header-laid n)
    ∙ part-laid number_size (bytes_of number_size) (length-bytes_of number_size) [] [] (numbers n) 0 k a l (omega arith)
    ∙ ap (bytes_of number_size) e in
    number-first header rest a number_size (omega arith)
    ∙ sym (number-within header a number_size 0 number_size a (add-zero a) (omega arith))
    ∙ ap (λ (t : List ℕ). number_at t 0 number_size) chunk
    ∙ number-bytes number_size v h

-- ---- the lines

abbrev nobody : Entry
nobody = Ask FirstGap ⇒ done

fit_at : (log : List Entry) (k : ℕ) → all_fit log ≡ true → k < length log → fits (get_or log k nobody) ≡ true
unfolding all_fit
fit_at [] k h l = absurd (omega arith)
fit_at (e ∷ log) zero h l = (and_split (fits e) (all_fit log) h).0
fit_at (e ∷ log) (suc k) h l = fit_at log k (and_split (fits e) (all_fit log) h).1 (omega arith)

entries-back : (t : List ℕ) (xs : List Entry) (k : ℕ)
    → ((i : ℕ) → i < length xs → entry_in (line_at t (entry_at (k + i))) ≡ get_or xs i nobody) → entries_from t k (length xs) ≡ xs
unfolding entries_from
entries-back t [] k h = refl
entries-back t (x ∷ xs) k h =
    let first : entry_in (line_at t (entry_at k)) ≡ x = rw add-zero at (h 0 (omega arith)) in
    rw (first, entries-back t xs (suc k) (λ i l. let same : suc k + i ≡ k + suc i = omega arith in rw same (h (suc i) (omega arith))))

laid-bytes : (log : List Entry) → all_fit log ≡ true → Bytes (laid entry_bytes log)
unfolding laid all_fit
laid-bytes [] h i = lit< tt
laid-bytes (e ∷ log) h i =
    let p = and_split (fits e) (all_fit log) h in
    bytes-append (entry_bytes e) (laid entry_bytes log) (line-bytes (line_of e) (good e p.0).held) (laid-bytes log p.1) i

trace-bytes : (log : List Entry) → all_fit log ≡ true → Bytes (trace_of log)
unfolding trace_of
trace-bytes log h = bytes-append (trace_header (length log)) (laid entry_bytes log) (header-bytes (length log)) (laid-bytes log h)

-- ---- the law

module _ (log : List Entry) (few : length log ≤ most_entries) (all_fit : all_fit log ≡ true) where
  number_is : (k v : ℕ) → k < 3 → get_or (numbers (length log)) k 0 ≡ v → v < 256 ^ number_size → header_number (trace_of log) (number_size * k) ≡ v
  unfolding trace_of
  number_is k v l e h = header-number (length log) k v (laid entry_bytes log) l e h

  count-is : count (trace_of log) ≡ length log
  count-is = number_is 1 (length log) (lit< tt) refl (omega arith)

  line-is : (k : ℕ) → k < length log → line_at (trace_of log) (entry_at k) ≡ line_of (get_or log k nobody)
  unfolding trace_of
  line-is k l =
      let e = get_or log k nobody in
      let header = trace_header (length log) in
      let lh = length-header (length log) in
      line-within (trace_of log) (entry_at k)
      ∙ ap (λ (t : List ℕ). line_at (part t (entry_at k) entry_size) 0) (sym (append-nil (trace_of log)))
      ∙ ap (λ (t : List ℕ). line_at t 0)
      (part-laid entry_size entry_bytes (λ x. length-line (line_of x)) header [] log nobody k (entry_at k) l (omega arith))
      ∙ line-back (line_of e) (good e (fit_at log k all_fit l)).held

  is-header : header_right (trace_of log) ≡ true
  unfolding header_right
  is-header =
      let long = length-trace log in
      rw (
        number_is 0 (entry_at (length log)) (lit< tt) refl (omega arith),
        number_is 2 header_size (lit< tt) refl (lit< tt),
        count-is,
        long,
        le-leb (length log) most_entries few,
        eq-eqb (entry_at (length log)) (entry_at (length log)) refl,
      )

  are-lines : lines_right (trace_of log) ≡ true
  unfolding lines_right
  are-lines =
      rw count-is
      (all-each (length log) (λ k. line_right (line_at (trace_of log) (entry_at k)))
      (λ i l. ap line_right (line-is i l) ∙ (good (get_or log i nobody) (fit_at log i all_fit l)).right))

  reads-back : ReadsBack log
  unfolding is_trace entries_of
  reads-back =
      record {
        all_bytes = bytes;
        is-trace = rw (le-leb header_size (length (trace_of log)) (rw length-trace (omega arith)), is-header, are-lines);
        same_log = rw count-is (entries-back (trace_of log) log 0 (λ i l. rw zero-add (entry-is i l)));
      }
    where
      bytes : Bytes (trace_of log)
      bytes = trace-bytes log all_fit

      entry-is : (i : ℕ) → i < length log → entry_in (line_at (trace_of log) (entry_at i)) ≡ get_or log i nobody
      entry-is i l = ap entry_in (line-is i l) ∙ (good (get_or log i nobody) (fit_at log i all_fit l)).back

pub written-reads-back : WrittenReadsBack
written-reads-back log few all_fit = reads-back log few all_fit
