-- Demand 3's claim, from a promise for each call to the whole list. If every call on the layout of a book answers as the model does and leaves the
-- layout of the model's next book, so does every list of calls, and all that holds of the model's lists holds of it. Assumes nothing.
use Rattle.std.proofs.Common.{◌≡◌, ℕ, true, List, [], ◌∷◌, ◌++◌, map, sym, refl, ap, ◌∙◌, subst}
use Rattle.ledger_model.specs.Book.{Book, idle, fresh}
use Rattle.ledger_model.specs.Step.{Call, Save, Answer, accepted, step, Entry, ◌⇒◌, call_of, run, book_after}
use Rattle.ledger_model.specs.History.{serial}
use Rattle.ledger_model.specs.WellFormed.{WellFormed}
use Rattle.ledger_model.specs.Chain.{Chain, stop, next}
use Rattle.ledger_model.specs.inner.Steps.{Steps}
use Rattle.ledger_model.specs.Stale.{LastOpen}
use Rattle.ledger_model.specs.Claim.{Saved, Claim}
use Rattle.ledger_model.proofs.Outcome.{outcome}
use Rattle.ledger_model.proofs.WellFormed.{well-formed, fresh-well-formed}
use Rattle.ledger_model.proofs.Replay.{replays-run, serial-run}
use Rattle.ledger_model.proofs.Stale.{watching, opened-row, OpenDesk, save-open, stale-exactly, stale-cause}
use Rattle.ledger_model.proofs.History.{serial-entries, serial-order, save-stands}

-- ---- a log cut in two

-- Of a log that is the model's, so is each part from the start,
past-log : (b : Book) (past future : List Entry) → (run b (map call_of (past ++ future))).log ≡ past ++ future → (run b (map call_of past)).log ≡ past
unfolding run
past-log b [] future e = refl
past-log b ((x ⇒ y) ∷ past) future e =
    let rest : (run (step x b).book (map call_of (past ++ future))).log ≡ past ++ future = cc in
    cc (past-log (step x b).book past future rest)

-- and each entry's answer.
answer-is : (b : Book) (past : List Entry) (c : Call) (a : Answer) (future : List Entry)
    → (run b (map call_of (past ++ (c ⇒ a) ∷ future))).log ≡ past ++ (c ⇒ a) ∷ future → a ≡ (step c (run b (map call_of past)).book).answer
unfolding run
answer-is b [] c a future e = cc
answer-is b ((x ⇒ y) ∷ past) c a future e =
    let rest : (run (step x b).book (map call_of (past ++ (c ⇒ a) ∷ future))).log ≡ past ++ (c ⇒ a) ∷ future = cc in
    answer-is (step x b).book past c a future rest

-- ---- from the model's answers to the claim

module _ {S : Type 0} (Meets : Call → S → Answer → S → Type 0) (layout : Book → S) (log : List Entry)
    (answers : (run fresh (map call_of log)).log ≡ log) where
  again : run fresh (map call_of (serial log)) ≡ record { log = serial log; book = idle (book_after log).places }
  again = rw answers at (serial-run (map call_of log))

  parted : (xs : List Entry) → log ≡ xs → (run fresh (map call_of xs)).log ≡ xs
  parted xs split = sym (ap (λ l. (run fresh (map call_of l)).log) split) ∙ answers ∙ split

  past_is : (past future : List Entry) → log ≡ past ++ future → (run fresh (map call_of past)).log ≡ past
  past_is past future split = past-log fresh past future (parted _ split)

  save-is : (past future : List Entry) (d : ℕ) (a : Answer) → log ≡ past ++ (Save d ⇒ a) ∷ future → a ≡ (step (Save d) (book_after past)).answer
  save-is past future d a split = answer-is fresh past (Save d) a future (parted _ split)

  saved : (past future : List Entry) (d : ℕ) (a : Answer) → log ≡ past ++ (Save d ⇒ a) ∷ future → accepted a ≡ true → Saved log past d a
  saved past future d a split t = at (save-open (book_after past) d (sym (ap accepted (save-is past future d a split)) ∙ t))
    where
      with_open : (r : ℕ) → LastOpen past d r → Saved log past d a
      with_open r k = record { row = r; opening = k; further = _; stands = ap serial split ∙ save-stands past future d r a k t }

      at : OpenDesk (book_after past) d → Saved log past d a
      at o = with_open o.row (opened-row past (past_is past _ split) d o.row o.opened o.worked o.is).opening

  -- `meets`: the answers and the store are the model's in every chain of the serial history's calls.
  claim-from : (last : S) → last ≡ layout (book_after log)
      → ((other : List Entry) (end : S) → Chain Meets (layout fresh) other end → map call_of other ≡ map call_of (serial log)
      → ((run fresh (map call_of other)).log ≡ other) × (end ≡ layout (book_after other)))
      → Claim Meets layout log last
  claim-from last laid meets =
      record {
        model_answers = answers;
        model_store = laid;
        serial-entries = serial-entries log;
        serial-order = serial-order log;
        serial_saves = saved;
        serial-run = again;
        serial_store = λ other end chain e.
            let k = meets other end chain e in
            let same-run = ap (run fresh) e ∙ again in
            (sym k.0 ∙ ap (λ x. x.log) same-run, k.1 ∙ ap (λ x. layout x.book) same-run);
        as_opened = λ past future d r opened worked split. opened-row past (past_is past future split) d r opened worked;
        stale-exactly = λ past future d r opened worked a split x.
            let w = watching (map call_of past) d r opened worked x in
            rw (save-is past future d a split) (stale-exactly (book_after past) d r opened worked w.is-desk x);
        stale-cause = λ past future d r opened worked a split x y.
            rw (past_is past _ split) at (stale-cause (map call_of past) d r opened worked x (sym (save-is past future d a split) ∙ y));
      }

-- ---- any store whose calls keep their promise

module _ {S : Type 0} (Meets : Call → S → Answer → S → Type 0) (layout : Book → S)
    (each : (c : Call) (b : Book) (a : Answer) (t : S) → WellFormed b → Meets c (layout b) a t
    → (a ≡ (step c b).answer) × (t ≡ layout (step c b).book)) where
  chain-from : {s t : S} {es : List Entry} → Chain Meets s es t → (b : Book) → s ≡ layout b → WellFormed b
      → ((run b (map call_of es)).log ≡ es) × (t ≡ layout (run b (map call_of es)).book)
  unfolding run
  chain-from stop b e h = (refl, e)
  chain-from (next {t = t} {c = c} {a = a} m rest) b e h =
      let p = each c b a t h (subst (λ x. Meets c x a t) e m) in
      let q = chain-from rest (step c b).book p.1 (well-formed b h (outcome c b)) in
      (cc (p.0, q.0), q.1)

  -- From the fresh book laid out: the answers are the model's, and what is left is the model's book laid out.
  pub chain_run : {log : List Entry} {last : S} → Chain Meets (layout fresh) log last
      → ((run fresh (map call_of log)).log ≡ log) × (last ≡ layout (book_after log))
  chain_run chain = chain-from chain fresh refl fresh-well-formed

  pub chain-claim : {log : List Entry} {last : S} → Chain Meets (layout fresh) log last → Claim Meets layout log last
  chain-claim {log = log} {last = last} chain =
      let k = chain_run chain in
      claim-from Meets layout log k.0 last k.1 (λ other end chain' e. chain_run chain')

-- ---- the model itself

pub log-calls : (calls : List Call) (b : Book) → map call_of (run b calls).log ≡ calls
unfolding run
log-calls [] b = refl
log-calls (c ∷ calls) b = rw (log-calls calls (step c b).book)

-- The claim holds of the model's own run of every list of calls.
pub model-claim : (calls : List Call) → Claim Steps (λ b. b) (run fresh calls).log (run fresh calls).book
model-claim calls =
    claim-from Steps (λ b. b) (run fresh calls).log (rw (log-calls calls fresh)) (run fresh calls).book
    (ap (λ cs. (run fresh cs).book) (sym (log-calls calls fresh)))
    (λ other end chain e. let r = replays-run chain in (ap (λ x. x.log) r, sym (ap (λ x. x.book) r)))
