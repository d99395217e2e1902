-- A log replayed in pieces. Assumes nothing.
use Prim.Native.Nat.{ℕ, zero, suc, ◌+◌}
use native.Mathlib.Nat.{add-zero}
use native.Mathlib.Omega.{arith}
use mathlib.Core.Bool.{Bool, true, false, cond}
use mathlib.Core.List.{List, [], ◌∷◌, ◌++◌, map}
use mathlib.Core.Path.{◌≡◌, refl, sym, ap, ◌∙◌}
use lib.Dec.{eqb}
use lib.ListN.{length}
use borrow.Author.Tests.{eqb-true}
use Rattle.refusals.specs.Judge.{judge}
use Rattle.ledger_model.specs.Book.{Book, fresh}
use Rattle.ledger_model.specs.Step.{Call, answer_words, step, Entry, ◌⇒◌, call_of, run, book_after}
use Rattle.ledger_model.specs.WellFormed.{WellFormed}
use Rattle.ledger_model.proofs.WellFormed.{well-formed-from, run-well-formed}
use Rattle.ledger_sheet.specs.Sheet.{sheet_size, right}
use Rattle.ledger_sheet.specs.Outcome.{refused_or}
use Rattle.ledger_layout.specs.Layout.{layout, call, on_sheet}
use Rattle.ledger_layout.proofs.Right.{layout-right}
use Rattle.ledger_replay.specs.Trace.{count, is_trace, entries_from, entries_of}
use Rattle.ledger_replay.specs.Replay.{call_answer, same_call_answer, differs, replay_from, replay_on, replay_on_sheet}
use Rattle.ledger_replay.specs.Pieces.{counted_from, shifted, JoinedReplay, log_of, AllTraces, GoOn, finish, piece, AllSame, IsModels, AuditInPieces}
use Rattle.ledger_replay.proofs.Histories.{plays, truth, replay-fresh, refused-words, model-is-same, same-is-model}

-- ---- what the call says, where it is not refused

over-right : (t s : List ℕ) → right s ≡ true → is_trace t ≡ true → replay_on_sheet t s ≡ replay_from 0 (entries_of t) s
unfolding replay_on_sheet refused_or judge
over-right t s r h = rw (r, h)

-- A replay that says 'same' is of a trace, over a slice of a sheet's length.
same_parts : (t s : List ℕ) → (replay_on t s).0 ≡ 0 ∷ [] → (length s ≡ sheet_size) × (is_trace t ≡ true)
unfolding replay_on refused_or judge
same_parts t s e = by (eqb (length s) sheet_size) refl (is_trace t) refl
  where
    by : (u : Bool) → eqb (length s) sheet_size ≡ u → (v : Bool) → is_trace t ≡ v → (length s ≡ sheet_size) × (is_trace t ≡ true)
    by true p true q = (eqb-true (length s) sheet_size p, q)
    by true p false q = refused-words 40 (rw (p, q) at e) (omega arith)
    by false p v q = refused-words 20 (rw p at e) (omega arith)

-- ---- entries after entries

-- The sheet and the answer of entry `c ⇒ a`, and whether it answers as written.
module _ (c : Call) (s : List ℕ) where
  abbrev left_by : List ℕ
  left_by = (on_sheet (call c) s).1

append-from : (xs ys : List Entry) (k : ℕ) (s : List ℕ) → (replay_from k xs s).0 ≡ 0 ∷ []
    → replay_from k (xs ++ ys) s ≡ replay_from (k + length xs) ys (replay_from k xs s).1
unfolding replay_from
append-from [] ys k s e = rw (add-zero k)
append-from ((c ⇒ a) ∷ xs) ys k s e =
    by (same_call_answer (call_answer (on_sheet (call c) s).0) (call_answer (answer_words a))) e (append-from xs ys (suc k) (left_by c s))
  where
    by : (t : Bool) → (cond t (replay_from (suc k) xs (left_by c s)) (differs k (call_answer (on_sheet (call c) s).0), left_by c s)).0 ≡ 0 ∷ []
        → ((replay_from (suc k) xs (left_by c s)).0 ≡ 0 ∷ []
        → replay_from (suc k) (xs ++ ys) (left_by c s) ≡ replay_from (suc k + length xs) ys (replay_from (suc k) xs (left_by c s)).1)
        → cond t (replay_from (suc k) (xs ++ ys) (left_by c s)) (differs k (call_answer (on_sheet (call c) s).0), left_by c s)
        ≡ replay_from (k + suc (length xs)) ys (cond t (replay_from (suc k) xs (left_by c s)) (differs k (call_answer (on_sheet (call c) s).0), left_by c s)).1
    by true h rest = let up : suc k + length xs ≡ k + suc (length xs) = omega arith in rw up at (rest h)
    by false h rest = cc

shift_from : (es : List Entry) (n k : ℕ) (s : List ℕ) → replay_from (n + k) es s ≡ shifted n (replay_from k es s)
unfolding replay_from counted_from
shift_from [] n k s = refl
shift_from ((c ⇒ a) ∷ es) n k s =
    by (same_call_answer (call_answer (on_sheet (call c) s).0) (call_answer (answer_words a))) (shift_from es n (suc k) (left_by c s))
  where
    by : (t : Bool) → replay_from (n + suc k) es (left_by c s) ≡ shifted n (replay_from (suc k) es (left_by c s))
        → cond t (replay_from (suc (n + k)) es (left_by c s)) (differs (n + k) (call_answer (on_sheet (call c) s).0), left_by c s)
        ≡ shifted n (cond t (replay_from (suc k) es (left_by c s)) (differs k (call_answer (on_sheet (call c) s).0), left_by c s))
    by true rest = let up : n + suc k ≡ suc (n + k) = omega arith in rw up at rest
    by false rest = refl

count_entries : (t : List ℕ) (k n : ℕ) → length (entries_from t k n) ≡ n
unfolding entries_from
count_entries t k zero = refl
count_entries t k (suc n) = ap suc (count_entries t (suc k) n)

entry-count : (t : List ℕ) → length (entries_of t) ≡ count t
unfolding entries_of
entry-count t = count_entries t 0 (count t)

pub joined-replay : JoinedReplay
joined-replay first second whole s j e =
    let parts = same_parts first s e in
    let alone = replay-fresh first s parts.0 parts.1 in
    let after = (replay_on first s).1 in
    let laid : right after ≡ true = rw (same-is-model first s e).model_sheet (layout-right _ (run-well-formed _)) in
    let counted : 0 + length (entries_of first) ≡ count first + 0 = omega (arith, entry-count first) in
    replay-fresh whole s parts.0 j.whole_trace
    ∙ ap (λ es. replay_from 0 es (layout fresh)) j.all_entries
    ∙ append-from (entries_of first) (entries_of second) 0 (layout fresh) (ap (λ o. o.0) (sym alone) ∙ e)
    ∙ ap (λ o. replay_from (0 + length (entries_of first)) (entries_of second) o.1) (sym alone)
    ∙ ap (λ k. replay_from k (entries_of second) after) counted
    ∙ shift_from (entries_of second) (count first) 0 after
    ∙ ap (shifted (count first)) (sym (over-right second after laid j.second_trace))

-- ---- the model's runs, cut and joined

cut-log : (xs ys : List Entry) (b : Book) → (run b (map call_of (xs ++ ys))).log ≡ xs ++ ys
    → ((run b (map call_of xs)).log ≡ xs) × ((run (run b (map call_of xs)).book (map call_of ys)).log ≡ ys)
unfolding run
cut-log [] ys b e = (refl, e)
cut-log ((c ⇒ a) ∷ xs) ys b e =
    let answer : (step c b).answer ≡ a = cc in
    let rest : (run (step c b).book (map call_of (xs ++ ys))).log ≡ xs ++ ys = cc in
    let parts = cut-log xs ys (step c b).book rest in
    (rw (answer, parts.0), parts.1)

join-log : (xs ys : List Entry) (b : Book) → (run b (map call_of xs)).log ≡ xs → (run (run b (map call_of xs)).book (map call_of ys)).log ≡ ys
    → (run b (map call_of (xs ++ ys))).log ≡ xs ++ ys
unfolding run
join-log [] ys b e f = f
join-log ((c ⇒ a) ∷ xs) ys b e f =
    let answer : (step c b).answer ≡ a = cc in
    let rest : (run (step c b).book (map call_of xs)).log ≡ xs = cc in
    rw (answer, join-log xs ys (step c b).book rest f)

join-book : (xs ys : List Entry) (b : Book)
    → (run b (map call_of (xs ++ ys))).book ≡ (run (run b (map call_of xs)).book (map call_of ys)).book
unfolding run
join-book [] ys b = refl
join-book ((c ⇒ a) ∷ xs) ys b = join-book xs ys (step c b).book

-- ---- one piece over a book laid out

module _ (t : List ℕ) (b : Book) (ok : WellFormed b) (h : is_trace t ≡ true) where
  over-layout : replay_on_sheet t (layout b) ≡ replay_from 0 (entries_of t) (layout b)
  over-layout = over-right t (layout b) (layout-right b ok) h

  piece-plays : (run b (map call_of (entries_of t))).log ≡ entries_of t
      → replay_on_sheet t (layout b) ≡ (0 ∷ [], layout (run b (map call_of (entries_of t))).book)
  piece-plays e = over-layout ∙ plays (entries_of t) b 0 ok e

  piece-answers : (replay_from 0 (entries_of t) (layout b)).0 ≡ 0 ∷ [] → (run b (map call_of (entries_of t))).log ≡ entries_of t
  unfolding entries_of
  piece-answers e = truth t (count t) 0 0 b ok e

  piece-says : (next : List ℕ) → replay_on_sheet t (layout b) ≡ (0 ∷ [], next)
      → ((run b (map call_of (entries_of t))).log ≡ entries_of t) × (next ≡ layout (run b (map call_of (entries_of t))).book)
  piece-says next e =
      let answers = piece-answers (ap (λ o. o.0) (sym over-layout ∙ e)) in
      (answers, ap (λ o. o.1) (sym e ∙ piece-plays answers))

-- ---- further pieces

pieces-say : (pieces : List (List ℕ)) (b : Book) → WellFormed b → AllTraces pieces → (s last : List ℕ) → s ≡ layout b → GoOn s pieces last
    → ((run b (map call_of (log_of pieces))).log ≡ log_of pieces) × (last ≡ layout (run b (map call_of (log_of pieces))).book)
unfolding log_of AllTraces run
pieces-say [] b ok ts s last e finish = (refl, e)
pieces-say (t ∷ pieces) b ok ts s last e (piece {next = next} same more) =
    let here = piece-says t b ok ts.0 next (rw e at same) in
    let rest = pieces-say pieces (run b (map call_of (entries_of t))).book (well-formed-from (map call_of (entries_of t)) b ok) ts.1 next last here.1 more in
    (join-log (entries_of t) (log_of pieces) b here.0 rest.0, rest.1 ∙ ap layout (sym (join-book (entries_of t) (log_of pieces) b)))

go_on : (pieces : List (List ℕ)) (b : Book) → WellFormed b → AllTraces pieces → (run b (map call_of (log_of pieces))).log ≡ log_of pieces
    → GoOn (layout b) pieces (layout (run b (map call_of (log_of pieces))).book)
unfolding log_of AllTraces run
go_on [] b ok ts e = finish
go_on (t ∷ pieces) b ok ts e =
    let parts = cut-log (entries_of t) (log_of pieces) b e in
    let after = (run b (map call_of (entries_of t))).book in
    let rest = go_on pieces after (well-formed-from (map call_of (entries_of t)) b ok) ts.1 parts.1 in
    let last = layout (run after (map call_of (log_of pieces))).book in
    let gone : GoOn (layout b) (t ∷ pieces) last = piece (piece-plays t b ok ts.0 parts.0) rest in
    rw (join-book (entries_of t) (log_of pieces) b) gone

-- ---- the audit

pub audit-in-pieces : AuditInPieces
unfolding log_of AllTraces
audit-in-pieces s first pieces last l ts = (as-models, says)
  where
    as-models : AllSame s first pieces last → IsModels (log_of (first ∷ pieces)) last
    as-models k =
        let model = same-is-model first s (ap (λ o. o.0) k.first-same) in
        let laid = ap (λ o. o.1) (sym k.first-same) ∙ model.model_sheet in
        let rest = pieces-say pieces (book_after (entries_of first)) (run-well-formed _) ts.1 k.after_first last laid k.others_same in
        record {
          model_answers = join-log (entries_of first) (log_of pieces) fresh model.model_answers rest.0;
          model_sheet = rest.1 ∙ ap layout (sym (join-book (entries_of first) (log_of pieces) fresh));
        }

    says : IsModels (log_of (first ∷ pieces)) last → AllSame s first pieces last
    says m =
        let parts = cut-log (entries_of first) (log_of pieces) fresh m.model_answers in
        let rest = go_on pieces (book_after (entries_of first)) (run-well-formed _) ts.1 parts.1 in
        record {
          after_first = layout (book_after (entries_of first));
          first-same = model-is-same first s l ts.0 parts.0;
          others_same = rw (m.model_sheet ∙ ap layout (join-book (entries_of first) (log_of pieces) fresh)) rest;
        }
