-- The replay of a night's trace answers "same"; and a replay answers "same" only if the answers are the model's. Assumes nothing.
use Prim.Native.Nat.{ℕ, zero, suc, ◌<◌}
use native.Mathlib.Omega.{arith}
use mathlib.Core.Bool.{Bool, true, false, cond, not}
use mathlib.Core.List.{List, [], ◌∷◌, map}
use mathlib.Core.Path.{◌≡◌, refl, sym, ap, ◌∙◌}
use lib.Dec.{eqb}
use lib.ListN.{length, get_or}
use borrow.Author.Tests.{eqb-true, eq-eqb, not-true}
use Rattle.laws.proofs.Bools.{and_split}
use Rattle.refusals.specs.Judge.{judge}
use Rattle.ledger_model.specs.Lists.{filtered}
use Rattle.ledger_model.specs.Book.{Book, fresh}
use Rattle.ledger_model.specs.Step.{Call, Enrol, Open, Tick, Untick, Save, Drop, Strike, Answer, gave}
use Rattle.ledger_model.specs.Step.{refused, answer_words, step, Entry, ◌⇒◌, call_of, run, book_after}
use Rattle.ledger_model.specs.WellFormed.{WellFormed}
use Rattle.ledger_model.proofs.Outcome.{outcome}
use Rattle.ledger_model.proofs.WellFormed.{well-formed, fresh-well-formed}
use Rattle.ledger_sheet.specs.Sheet.{sheet_size}
use Rattle.ledger_sheet.specs.Outcome.{refused_or}
use Rattle.ledger_layout.specs.Layout.{layout, call, fresh_on}
use Rattle.ledger_layout.proofs.Sheets.{on-layout}
use Rattle.ledger.proofs.Demand3.{demand-3}
use Rattle.ledger_replay.specs.Trace.{Line}
use Rattle.ledger_replay.specs.Replay.{CallAnswer}
use Rattle.ledger_replay.specs.Trace.{enrol_call, open_call, tick_call, untick_call, save_call, drop_call, entry_at}
use Rattle.ledger_replay.specs.Trace.{line_at, is_trace, call_in, answer_in, entries_from, entries_of, count}
use Rattle.ledger_replay.specs.Record.{is_kept, recorded, trace_of}
use Rattle.ledger_replay.specs.Replay.{call_answer, same_call_answer, differs, replay_from, replay_on}
use Rattle.ledger_replay.specs.inner.Making.{written}
use Rattle.ledger_replay.specs.Laws.{row_fits, nothing_fits, answer_fits, all_fit}
use Rattle.ledger_replay.specs.Histories.{HistoryPlaysAgain, AsModel, SameIsModel, ModelIsSame}
use Rattle.ledger_replay.proofs.Turns.{written_row, written-number}
use Rattle.ledger_replay.proofs.Written.{written-reads-back}
use Rattle.ledger_replay.proofs.Kept.{asks, kept-asks, model-fits, unkept-stays}

-- ---- where the log is the model's

same_answer : (x : CallAnswer) → same_call_answer x x ≡ true
unfolding same_call_answer
same_answer x = rw (eq-eqb x.number x.number refl, eq-eqb x.row x.row refl)

pub plays : (es : List Entry) (b : Book) (k : ℕ) → WellFormed b → (run b (map call_of es)).log ≡ es
    → replay_from k es (layout b) ≡ (0 ∷ [], layout (run b (map call_of es)).book)
unfolding replay_from run
plays [] b k ok e = refl
plays ((c ⇒ a) ∷ es) b k ok e =
    let answer : (step c b).answer ≡ a = cc in
    let rest : (run (step c b).book (map call_of es)).log ≡ es = cc in
    rw (on-layout (call c) b ok, answer, same_answer (call_answer (answer_words a))) (plays es (step c b).book (suc k) (well-formed b ok (outcome c b)) rest)

-- ---- what a line says of an answer, where it is as written

module _ (x : Line) where
  abbrev numbers : Answer → Bool
  numbers a = eqb (get_or (answer_words a) 0 0) (written x).number

  abbrev rows : Answer → Bool
  rows a = eqb (get_or (answer_words a) 1 0) (written x).row

  number-answered : (a : Answer) → same_call_answer (call_answer (answer_words a)) (written x) ≡ true → get_or (answer_words a) 0 0 ≡ x.answer
  unfolding same_call_answer call_answer
  number-answered a e = eqb-true _ _ (and_split (numbers a) (rows a) e).0 ∙ written-number x

  row-answered : (a : Answer) → same_call_answer (call_answer (answer_words a)) (written x) ≡ true → get_or (answer_words a) 1 0 ≡ (written x).row
  unfolding same_call_answer call_answer
  row-answered a e = eqb-true _ _ (and_split (numbers a) (rows a) e).1

  refused-line : (n : ℕ) → not (eqb n 0) ≡ true → n ≡ x.answer → answer_in x ≡ refused n
  unfolding answer_in
  refused-line n h e = let z : eqb x.answer 0 ≡ false = rw (← e) (not-true (eqb n 0) h) in rw (z, e)

  enrol-line : (a : Answer) → eqb x.call enrol_call ≡ true → row_fits a ≡ true
      → same_call_answer (call_answer (answer_words a)) (written x) ≡ true → answer_in x ≡ a
  unfolding row_fits answer_in
  enrol-line (gave []) c h e = cc
  enrol-line (gave (r ∷ [])) c h e =
      let z : eqb x.answer 0 ≡ true = eq-eqb x.answer 0 (sym (number-answered (gave (r ∷ [])) e)) in
      let q : r ≡ x.row = row-answered (gave (r ∷ [])) e ∙ written_row x c z in
      rw (z, c, q)
  enrol-line (gave (r ∷ q ∷ words)) c h e = cc
  enrol-line (refused n) c h e = refused-line n (and_split _ _ h).0 (number-answered (refused n) e)

  plain-line : (a : Answer) → eqb x.call enrol_call ≡ false → nothing_fits a ≡ true
      → same_call_answer (call_answer (answer_words a)) (written x) ≡ true → answer_in x ≡ a
  unfolding nothing_fits answer_in
  plain-line (gave []) c h e =
      let z : eqb x.answer 0 ≡ true = eq-eqb x.answer 0 (sym (number-answered (gave []) e)) in
      rw (z, c)
  plain-line (gave (r ∷ words)) c h e = cc
  plain-line (refused n) c h e = refused-line n (and_split _ _ h).0 (number-answered (refused n) e)

  -- The call of a line is no question, and gives nothing but where it is an enrolment.
  record Called (c : Call) : Type 0 where
    no-question : asks c ≡ false
    nothing : (a : Answer) → answer_fits c a ≡ nothing_fits a

  called : (t u v w y : Bool)
      → Called (cond t (Open x.desk x.row) (cond u (Tick x.desk x.number) (cond v (Untick x.desk x.number)
      (cond w (Save x.desk) (cond y (Drop x.desk) (Strike x.row))))))
  unfolding asks answer_fits
  called true u v w y = record { no-question = refl; nothing = λ a. refl }
  called false true v w y = record { no-question = refl; nothing = λ a. refl }
  called false false true w y = record { no-question = refl; nothing = λ a. refl }
  called false false false true y = record { no-question = refl; nothing = λ a. refl }
  called false false false false true = record { no-question = refl; nothing = λ a. refl }
  called false false false false false = record { no-question = refl; nothing = λ a. refl }

  plain-call : eqb x.call enrol_call ≡ false → Called (call_in x)
  unfolding call_in
  plain-call c = rw c (called (eqb x.call open_call) (eqb x.call tick_call) (eqb x.call untick_call) (eqb x.call save_call) (eqb x.call drop_call))

  enrol-fits : (b : Book) → WellFormed b → eqb x.call enrol_call ≡ true → row_fits (step (call_in x) b).answer ≡ true
  unfolding call_in asks answer_fits
  enrol-fits b ok c = rw c (model-fits (Enrol x.key x.number) b ok refl)

  -- Where the model's answer is as written, it is what is written.
  line-true : (b : Book) → WellFormed b → same_call_answer (call_answer (answer_words (step (call_in x) b).answer)) (written x) ≡ true
      → answer_in x ≡ (step (call_in x) b).answer
  line-true b ok e = by (eqb x.call enrol_call) refl
    where
      by : (t : Bool) → eqb x.call enrol_call ≡ t → answer_in x ≡ (step (call_in x) b).answer
      by true c = enrol-line _ c (enrol-fits b ok c) e
      by false c =
          let k = plain-call c in
          plain-line _ c (sym (k.nothing (step (call_in x) b).answer) ∙ model-fits (call_in x) b ok k.no-question) e

-- ---- what 'same' says

pub truth : (t : List ℕ) (n j k : ℕ) (b : Book) → WellFormed b → (replay_from k (entries_from t j n) (layout b)).0 ≡ 0 ∷ []
    → (run b (map call_of (entries_from t j n))).log ≡ entries_from t j n
unfolding entries_from replay_from run written
truth t zero j k b ok e = refl
truth t (suc n) j k b ok e =
    by (same_call_answer (call_answer (answer_words (step (call_in x) b).answer)) (call_answer (answer_words (answer_in x)))) refl
    (rw (on-layout (call (call_in x)) b ok) at e)
    (truth t n (suc j) (suc k) (step (call_in x) b).book (well-formed b ok (outcome (call_in x) b)))
  where
    x : Line
    x = line_at t (entry_at j)

    by : (u : Bool) → same_call_answer (call_answer (answer_words (step (call_in x) b).answer)) (call_answer (answer_words (answer_in x))) ≡ u
        → (cond u (replay_from (suc k) (entries_from t (suc j) n) (layout (step (call_in x) b).book))
        (differs k (call_answer (answer_words (step (call_in x) b).answer)), layout (step (call_in x) b).book)).0 ≡ 0 ∷ []
        → ((replay_from (suc k) (entries_from t (suc j) n) (layout (step (call_in x) b).book)).0 ≡ 0 ∷ []
        → (run (step (call_in x) b).book (map call_of (entries_from t (suc j) n))).log ≡ entries_from t (suc j) n)
        → (run b (call_in x ∷ map call_of (entries_from t (suc j) n))).log ≡ (call_in x ⇒ answer_in x) ∷ entries_from t (suc j) n
    by true q h rest = rw (line-true x b ok q, rest h)
    by false q h rest = cc

-- ---- the calls that are kept

kept_run : (log : List Entry) (b : Book) → WellFormed b → (run b (map call_of log)).log ≡ log
    → run b (map call_of (recorded log)) ≡ record { log = recorded log; book = (run b (map call_of log)).book }
unfolding run filtered
kept_run [] b ok e = refl
kept_run ((c ⇒ a) ∷ log) b ok e =
    let answer : (step c b).answer ≡ a = cc in
    let rest : (run (step c b).book (map call_of log)).log ≡ log = cc in
    by (is_kept c) refl answer (kept_run log (step c b).book (well-formed b ok (outcome c b)) rest)
  where
    by : (t : Bool) → is_kept c ≡ t → (step c b).answer ≡ a
        → run (step c b).book (map call_of (recorded log)) ≡ record { log = recorded log; book = (run (step c b).book (map call_of log)).book }
        → run b (map call_of (recorded ((c ⇒ a) ∷ log))) ≡ record { log = recorded ((c ⇒ a) ∷ log); book = (run (step c b).book (map call_of log)).book }
    by true k q rest = rw (k, rest, q)
    by false k q rest = rw (k, unkept-stays c b ok k) (rw (unkept-stays c b ok k) at rest)

kept-fit : (log : List Entry) (b : Book) → WellFormed b → (run b (map call_of log)).log ≡ log → all_fit (recorded log) ≡ true
unfolding run filtered all_fit
kept-fit [] b ok e = refl
kept-fit ((c ⇒ a) ∷ log) b ok e =
    let answer : (step c b).answer ≡ a = cc in
    let rest : (run (step c b).book (map call_of log)).log ≡ log = cc in
    by (is_kept c) refl answer (kept-fit log (step c b).book (well-formed b ok (outcome c b)) rest)
  where
    by : (t : Bool) → is_kept c ≡ t → (step c b).answer ≡ a → all_fit (recorded log) ≡ true → all_fit (recorded ((c ⇒ a) ∷ log)) ≡ true
    by true k q rest = rw (k, rest, ← q, model-fits c b ok (kept-asks c k), k)
    by false k q rest = rw k rest

-- ---- the theorems

same-answers : (t : List ℕ) → (replay_from 0 (entries_of t) (layout fresh)).0 ≡ 0 ∷ [] → (run fresh (map call_of (entries_of t))).log ≡ entries_of t
unfolding entries_of
same-answers t e = truth t (count t) 0 0 fresh fresh-well-formed e

pub replay-fresh : (t s : List ℕ) → length s ≡ sheet_size → is_trace t ≡ true → replay_on t s ≡ replay_from 0 (entries_of t) (layout fresh)
unfolding replay_on refused_or judge fresh_on
replay-fresh t s l h = rw (eq-eqb (length s) sheet_size l, h)

pub model-is-same : ModelIsSame
model-is-same t s l h e = replay-fresh t s l h ∙ plays (entries_of t) fresh 0 fresh-well-formed e

pub refused-words : {A : Type 0} (n : ℕ) → ◌≡◌ {A = List ℕ} (n ∷ []) (0 ∷ []) → 0 < n → A
refused-words n e l = let z : n ≡ 0 = cc in absurd (omega arith)

pub same-is-model : SameIsModel
unfolding replay_on refused_or judge
same-is-model t s e = by (eqb (length s) sheet_size) refl (is_trace t) refl
  where
    by : (u : Bool) → eqb (length s) sheet_size ≡ u → (v : Bool) → is_trace t ≡ v → AsModel t s
    by true p true q =
        let l = eqb-true (length s) sheet_size p in
        let m = same-answers t (ap (λ o. o.0) (sym (replay-fresh t s l q)) ∙ e) in
        record { model_answers = m; model_sheet = ap (λ o. o.1) (model-is-same t s l q m) }
    by true p false q = refused-words 40 (rw (p, q) at e) (omega arith)
    by false p v q = refused-words 20 (rw p at e) (omega arith)

pub history-plays-again : HistoryPlaysAgain
history-plays-again log last history few =
    let claim = (demand-3 history.slice history.made-fresh history.calls_made).claim in
    let answers = claim.model_answers in
    let back = written-reads-back (recorded log) few (kept-fit log fresh fresh-well-formed answers) in
    let again = kept_run log fresh fresh-well-formed answers in
    let same_log = back.same_log in
    let entries = entries_of (trace_of (recorded log)) in
    let log-again : (run fresh (map call_of entries)).log ≡ entries = rw same_log (ap (λ r. r.log) again) in
    record {
      reads-back = back;
      same_sheet = λ s l.
          model-is-same (trace_of (recorded log)) s l back.is-trace log-again
          ∙ ap (λ es. (0 ∷ [], layout (book_after es))) same_log
          ∙ ap (λ r. (0 ∷ [], layout r.book)) again
          ∙ ap (λ end. (0 ∷ [], end)) (sym claim.model_store);
    }
