-- Request 13's identity, for every list of calls on a fresh book. Assumes nothing.
use Rattle.std.proofs.Common.{◌≡◌, ℕ, zero, suc, ◌+◌, ◌<◌, Bool, true, false, cond, eqb, ◌≢◌, List, [], ◌∷◌, ◌++◌, map, length, get_or, set, replicate, sym}
use Rattle.std.proofs.Common.{refl, ap, ◌∙◌, arith, length-append, length-set, eq-eqb, ne_eqb}
use mathlib.Core.Bool.{beq}
use mathlib.Core.Option.{none, some}
use Rattle.laws.proofs.Bools.{by-test}
use Rattle.refusals.specs.Judge.{judge}
use Rattle.keys.specs.Key.{valid_key}
use Rattle.keys.specs.Numbers.{modulus}
use Rattle.ledger_model.specs.Lists.{filtered}
use Rattle.ledger_model.specs.Positions.{position, Positions, no_ticks, same, size}
use Rattle.ledger_model.specs.Book.{Place, free, row, Desk, closed, working, Book, fresh}
use Rattle.ledger_model.specs.Book.{place, desk, ticks_of, with_ticks, has_key, all_used, lowest_free, any_has_open}
use Rattle.ledger_model.specs.Step.{Call, Enrol, Ask, Open, Mark, Save, Drop, Strike, Tick, Untick, Answer}
use Rattle.ledger_model.specs.Step.{done, refused, Reply, refusals, effect, after_refusal, step, Entry, ◌⇒◌, call_of, run}
use Rattle.ledger_model.specs.History.{noted, transaction_from, transaction}
use Rattle.ledger_model.specs.Stale.{opened_by, last_opened}
use Rattle.ledger_model.specs.WellFormed.{WellFormed}
use Rattle.ledger_model.specs.Chain.{Chain}
use Rattle.ledger_model.specs.Tally.{marked, mark_count, strikes, struck_in, counted, saved_from, saved_ticks, saved_unticks, ticked, Tallies}
use Rattle.ledger_model.proofs.Basics.{same_true, row_in, HasRow, has-row, put_all, idle-desk}
use Rattle.ledger_model.proofs.Outcome.{Outcome, refusal, enrolment, asking, opening, unopened, unmarked}
use Rattle.ledger_model.proofs.Outcome.{marking, saving, stale, dropping, striking, outcome}
use Rattle.ledger_model.proofs.WellFormed.{well-formed, fresh-well-formed}
use Rattle.ledger_model.proofs.Replay.{transaction-snoc}
use Rattle.ledger_model.proofs.Stale.{last_opened-append, refused-opens}
use Rattle.ledger_model.proofs.History.{filtered-append}
use Rattle.ledger_model.proofs.Claim.{chain_run, log-calls}
use Rattle.ledger_model.proofs.Laws.{changes, Counted, size-mark}

-- ---- sums over places

-- Each place counts as f says, by its number and what it has.
sum : (ℕ → Place → ℕ) → List Place → ℕ
sum f [] = 0
sum f (p ∷ ps) = f 0 p + sum (λ r. f (suc r)) ps

sum_same : (f g : ℕ → Place → ℕ) (ps qs : List Place) → length ps ≡ length qs → ((r : ℕ) → f r (get_or ps r free) ≡ g r (get_or qs r free))
    → sum f ps ≡ sum g qs
unfolding sum
sum_same f g [] [] l h = refl
sum_same f g [] (q ∷ qs) l h = absurd (omega arith)
sum_same f g (p ∷ ps) [] l h = absurd (omega arith)
sum_same f g (p ∷ ps) (q ∷ qs) l h = cc (h 0, sum_same (λ r. f (suc r)) (λ r. g (suc r)) ps qs (omega arith) (λ r. h (suc r)))

sum-set : (f : ℕ → Place → ℕ) (ps : List Place) (i : ℕ) (p : Place) → i < length ps
    → sum f (set ps i p) + f i (get_or ps i free) ≡ sum f ps + f i p
unfolding sum
sum-set f [] i p h = absurd (omega arith)
sum-set f (q ∷ ps) zero p h = omega arith
sum-set f (q ∷ ps) (suc i) p h = omega (arith, sum-set (λ r. f (suc r)) ps i p (omega arith))

-- The positions ticked in places that the future does not strike.
abbrev weight : List Entry → ℕ → Place → ℕ
weight future r p = cond (struck_in future r) 0 (size (ticks_of p))

unstruck : List Entry → List Place → ℕ
unstruck future ps = sum (weight future) ps

unstruck-end : (ps : List Place) → unstruck [] ps ≡ ticked ps
unfolding unstruck sum struck_in ticked
unstruck-end [] = refl
unstruck-end (p ∷ ps) = rw (unstruck-end ps)

nothing : (t : Bool) → cond {A = ℕ} t 0 0 ≡ 0
nothing true = refl
nothing false = refl

none-ticked : (t : Bool) → cond t 0 (size []) ≡ 0
unfolding size
none-ticked t = nothing t

-- ---- what a desk has ticked and unticked

-- Desk d has row r open: it is the row of its last accepted open, and the worked set is the opened one with the transaction's accepted
-- ticks more and its accepted unticks less.
record Balanced (past : List Entry) (d r : ℕ) (opened worked : Positions) : Type 0 where
  row_is : last_opened d past ≡ some r
  balance : size worked + mark_count false (transaction d past) ≡ mark_count true (transaction d past) + size opened

abbrev Balance : List Entry → ℕ → Desk → Type 0
Balance past d closed = Unit {0}
Balance past d (working r opened worked) = Balanced past d r opened worked

abbrev Balances : List Entry → Book → Type 0
Balances past b = (d : ℕ) → Balance past d (desk b d)

-- One more entry in a transaction.
abbrev Uncounted : ℕ → Entry → Type 0
Uncounted d e = (opened_by d e ≡ none) × ((flag : Bool) (t : List Entry) → mark_count flag (noted d t e) ≡ mark_count flag t)

count-snoc : (flag : Bool) (t : List Entry) (e : Entry) → mark_count flag (t ++ e ∷ []) ≡ mark_count flag t + mark_count flag (e ∷ [])
count-snoc flag t e = rw (filtered-append (marked flag) t (e ∷ [])) (length-append (filtered (marked flag) t) _)

pub last_snoc : (past : List Entry) (e : Entry) (d r : ℕ) → opened_by d e ≡ none → last_opened d past ≡ some r → last_opened d (past ++ e ∷ []) ≡ some r
unfolding last_opened
last_snoc past e d r n h = last_opened-append d past (e ∷ []) ∙ rw (n, h)

grown : (past : List Entry) (e : Entry) (d : ℕ) (x : Desk) → Uncounted d e → Balance past d x → Balance (past ++ e ∷ []) d x
grown past e d closed u k = tt
grown past e d (working r opened worked) u k =
    record {
      row_is = last_snoc past e d r u.0 k.row_is;
      balance = rw (transaction-snoc d [] past e, u.1 false (transaction d past), u.1 true (transaction d past)) k.balance;
    }

-- A refused call counts nothing, nor does a call that is no mark of desk d.
refused-mark : (flag f : Bool) (e n number : ℕ) → mark_count flag ((Mark f e n ⇒ refused number) ∷ []) ≡ 0
unfolding filtered marked
refused-mark true true e n number = refl
refused-mark true false e n number = refl
refused-mark false true e n number = refl
refused-mark false false e n number = refl

refused-count : (d : ℕ) (c : Call) (number : ℕ) (flag : Bool) (t : List Entry) → mark_count flag (noted d t (c ⇒ refused number)) ≡ mark_count flag t
unfolding noted
refused-count d (Enrol key first) number flag t = refl
refused-count d (Ask q) number flag t = refl
refused-count d (Open e r) number flag t = refl
refused-count d (Mark f e n) number flag t =
    by-test (λ u. mark_count flag u ≡ mark_count flag t) (eqb e d)
    (λ _. omega (arith, count-snoc flag t (Mark f e n ⇒ refused number), refused-mark flag f e n number))
    (λ _. refl)
refused-count d (Save e) number flag t = refl
refused-count d (Drop e) number flag t = refl
refused-count d (Strike r) number flag t = refl

refused-uncounted : (d : ℕ) (c : Call) (number : ℕ) → Uncounted d (c ⇒ refused number)
refused-uncounted d c number = (refused-opens d c number, refused-count d c number)

-- An accepted mark counts one.
mark-count : (flag f : Bool) (d n : ℕ) (t : List Entry) → mark_count flag (t ++ (Mark f d n ⇒ done) ∷ []) ≡ mark_count flag t + cond (beq f flag) 1 0
unfolding filtered marked
mark-count true true d n t = count-snoc true t _
mark-count true false d n t = count-snoc true t _
mark-count false true d n t = count-snoc false t _
mark-count false false d n t = count-snoc false t _

module _ (past : List Entry) (b : Book) (w : WellFormed b) (k : Balances past b) where
  -- The desks as they were, after an entry that counts nothing.
  kept-desks : (e : Entry) → ((d : ℕ) → Uncounted d e) → (d : ℕ) → Balance (past ++ e ∷ []) d (desk b d)
  kept-desks e u d = grown past e d (desk b d) (u d) (k d)

  -- Desk d put.
  put-desk : (e : Entry) (d : ℕ) (x : Desk) → ((d' : ℕ) → d' ≢ d → Uncounted d' e) → Balance (past ++ e ∷ []) d x
      → (d' : ℕ) → Balance (past ++ e ∷ []) d' (get_or (set b.desks d x) d' closed)
  put-desk e d x u kept = put_all closed (Balance (past ++ e ∷ [])) b.desks d x tt kept (λ d' n. grown past e d' (desk b d') (u d' n) (k d'))

  marked-desk : (flag : Bool) (d n r : ℕ) (opened worked after : Positions) → Balanced past d r opened worked
      → Counted flag (size worked) (size after) → Balanced (past ++ (Mark flag d n ⇒ done) ∷ []) d r opened after
  unfolding noted opened_by
  marked-desk flag d n r opened worked after h c =
      let t = transaction d past in
      record {
        row_is = last_snoc past _ d r refl h.row_is;
        balance = rw (transaction-snoc d [] past (Mark flag d n ⇒ done), eq-eqb d d refl) (at flag c);
      }
    where
      at : (f : Bool) → Counted f (size worked) (size after)
          → size after + mark_count false (transaction d past ++ (Mark f d n ⇒ done) ∷ [])
          ≡ mark_count true (transaction d past ++ (Mark f d n ⇒ done) ∷ []) + size opened
      at true c = omega (arith, h.balance, mark-count false true d n (transaction d past), mark-count true true d n (transaction d past))
      at false c = omega (arith, h.balance, mark-count false false d n (transaction d past), mark-count true false d n (transaction d past))

  balances : {c : Call} {s : Reply} → Outcome b c s → Balances (past ++ (c ⇒ s.answer) ∷ []) s.book
  unfolding noted opened_by last_opened filtered marked
  balances (refusal {c = c} number m) = kept-desks _ (λ d. refused-uncounted d c number)
  balances (enrolment a) = kept-desks _ (λ d. (refl, λ flag t. refl))
  balances (asking words) = kept-desks _ (λ d. (refl, λ flag t. refl))
  balances (opening {d = d} {r = r} key first t u e x) =
      put-desk _ d _ (λ d' n. let o = ne_eqb d d' (λ q. n (sym q)) in (rw o, λ flag v. rw o))
      record {
        row_is = last_opened-append d past _ ∙ rw (eq-eqb d d refl);
        balance = rw (transaction-snoc d [] past (Open d r ⇒ done), eq-eqb d d refl) (omega arith);
      }
  balances (unopened {flag = f} {d = d} {n = n} number e) = kept-desks _ (λ d'. refused-uncounted d' (Mark f d n) number)
  balances (unmarked {flag = f} {d = d} {n = n} r opened worked i number h p q z) = kept-desks _ (λ d'. refused-uncounted d' (Mark f d n) number)
  balances (marking {flag = flag} {d = d} {n = n} r opened worked i h p q) =
      put-desk _ d _ (λ d' m. let o = ne_eqb d d' (λ q'. m (sym q')) in (refl, λ f v. rw o))
      (marked-desk flag d n r opened worked _ (rw h.1 at (k d))
      (size-mark flag i worked (rw h.1 at (w.desk_ok d)).2 (changes flag i worked q)))
  balances (saving {d = d} r opened worked h t) = put-desk _ d closed (λ d' n. (refl, λ flag v. refl)) tt
  balances (stale {d = d} r opened worked h t) = put-desk _ d closed (λ d' n. refused-uncounted d' (Save d) 31) tt
  balances (dropping {d = d} t x) = put-desk _ d closed (λ d' n. (refl, λ flag v. refl)) tt
  balances (striking f n) = kept-desks _ (λ d. (refl, λ flag t. refl))

-- ---- what a call counts, and what it does to the places

size_none : (n : ℕ) → size (replicate n false) ≡ 0
unfolding size
size_none zero = refl
size_none (suc n) = size_none n

refused-tally : (past future : List Entry) (ps : List Place) (c : Call) (number : ℕ)
    → unstruck future ps + counted false past (c ⇒ refused number) future
    ≡ counted true past (c ⇒ refused number) future + unstruck ((c ⇒ refused number) ∷ future) ps
unfolding unstruck struck_in strikes counted
refused-tally past future ps (Enrol key first) number = omega arith
refused-tally past future ps (Ask q) number = omega arith
refused-tally past future ps (Open d r) number = omega arith
refused-tally past future ps (Mark flag d n) number = omega arith
refused-tally past future ps (Save d) number = omega arith
refused-tally past future ps (Drop d) number = omega arith
refused-tally past future ps (Strike r) number = omega arith

module _ (past future : List Entry) (b : Book) (w : WellFormed b) (k : Balances past b) where
  enrol-tally : (r key first : ℕ) → r < length b.places → place b r ≡ free
      → unstruck future (set b.places r (row key first no_ticks)) ≡ unstruck future b.places
  unfolding unstruck no_ticks
  enrol-tally r key first l f =
      let free-weighs : weight future r (place b r) ≡ 0 = rw f (none-ticked (struck_in future r)) in
      let row-weighs : weight future r (row key first no_ticks) ≡ 0 = rw (size_none 1024) (nothing (struck_in future r)) in
      omega (arith, sum-set (weight future) b.places r (row key first no_ticks) l)

  strike-tally : (r : ℕ) → unstruck future (set b.places r free) ≡ unstruck ((Strike r ⇒ done) ∷ future) b.places
  unfolding unstruck struck_in strikes
  strike-tally r =
      sum_same (weight future) (weight ((Strike r ⇒ done) ∷ future)) _ _ (length-set b.places r free)
      (put_all free (λ q p. weight future q p ≡ weight ((Strike r ⇒ done) ∷ future) q (place b q)) b.places r free gone gone
      (λ q n. rw (ne_eqb r q (λ e. n (sym e)))))
    where
      gone : weight future r free ≡ weight ((Strike r ⇒ done) ∷ future) r (place b r)
      gone = none-ticked (struck_in future r) ∙ rw (eq-eqb r r refl)

  save-tally : (d r : ℕ) (opened worked : Positions) → Balanced past d r opened worked → HasRow (place b r) → ticks_of (place b r) ≡ opened
      → unstruck future (set b.places r (with_ticks worked (place b r))) + counted false past (Save d ⇒ done) future
      ≡ counted true past (Save d ⇒ done) future + unstruck future b.places
  unfolding unstruck counted
  save-tally d r opened worked h p e =
      rw h.row_is
      (at (struck_in future r) _ _ (rw stored at (sum-set (weight future) b.places r (with_ticks worked (place b r)) (row_in b.places r p.is))))
    where
      stored : ticks_of (with_ticks worked (place b r)) ≡ worked
      stored = rw p.is

      before : size (ticks_of (place b r)) ≡ size opened
      before = ap size e

      at : (t : Bool) (x y : ℕ) → x + cond t 0 (size (ticks_of (place b r))) ≡ y + cond t 0 (size worked)
          → x + cond t 0 (mark_count false (transaction d past)) ≡ cond t 0 (mark_count true (transaction d past)) + y
      at true x y g = omega arith
      at false x y g = omega (arith, h.balance, before)

  tallies : {c : Call} {s : Reply} → Outcome b c s
      → unstruck future s.book.places + counted false past (c ⇒ s.answer) future
      ≡ counted true past (c ⇒ s.answer) future + unstruck ((c ⇒ s.answer) ∷ future) b.places
  unfolding unstruck struck_in strikes counted
  tallies (refusal {c = c} number m) = refused-tally past future b.places c number
  tallies (enrolment {key = key} {first = first} a) = omega (arith, enrol-tally _ key first a.is-lowest.in_list a.is-lowest.is_free_lem)
  tallies (asking words) = omega arith
  tallies (opening key first t u e x) = omega arith
  tallies (unopened number e) = omega arith
  tallies (unmarked r opened worked i number h p q z) = omega arith
  tallies (marking r opened worked i h p q) = omega arith
  tallies (saving {d = d} r opened worked h t) =
      save-tally d r opened worked (rw h.1 at (k d)) (has-row (place b r) (rw h.1 at (w.desk_ok d)).0) (same_true _ _ t)
  tallies (stale r opened worked h t) = omega arith
  tallies (dropping t x) = omega arith
  tallies (striking {r = r} f n) = omega (arith, strike-tally r)

-- ---- the whole list

tally-from : (calls : List Call) (past : List Entry) (b : Book) → WellFormed b → Balances past b
    → ticked (run b calls).book.places + saved_from false past (run b calls).log
    ≡ saved_from true past (run b calls).log + unstruck (run b calls).log b.places
unfolding run saved_from
tally-from [] past b w k = omega (arith, unstruck-end b.places)
tally-from (c ∷ calls) past b w k =
    let o = outcome c b in
    let rest = tally-from calls (past ++ (c ⇒ (step c b).answer) ∷ []) (step c b).book (well-formed b w o) (balances past b w k o) in
    omega (arith, rest, tallies past (run (step c b).book calls).log b w k o)

sum-free : (f : ℕ → Place → ℕ) → ((r : ℕ) → f r free ≡ 0) → (n : ℕ) → sum f (replicate n free) ≡ 0
unfolding sum
sum-free f h zero = refl
sum-free f h (suc n) = rw (h 0) (omega (arith, sum-free (λ r. f (suc r)) (λ r. h (suc r)) n))

tally : (calls : List Call) → ticked (run fresh calls).book.places + saved_unticks (run fresh calls).log ≡ saved_ticks (run fresh calls).log
unfolding unstruck
tally calls =
    let log = (run fresh calls).log in
    let nothing_yet = sum-free (weight log) (λ r. none-ticked (struck_in log r)) 32 in
    omega (arith, nothing_yet, tally-from calls [] fresh fresh-well-formed (λ d. rw (idle-desk 8 d) tt))

-- The identity holds after every list of calls in the model,
pub model-tally : (calls : List Call) → Tallies (run fresh calls).log
model-tally calls = rw (ap (λ cs. (run fresh cs).book) (log-calls calls fresh)) (tally calls)

-- and on any store whose calls keep their promise.
module _ {S : Type 0} (Meets : Call → S → Answer → S → Type 0) (layout : Book → S)
    (each : (c : Call) (b : Book) (a : Answer) (t : S) → WellFormed b → Meets c (layout b) a t
    → (a ≡ (step c b).answer) × (t ≡ layout (step c b).book)) where
  pub chain-tally : {log : List Entry} {last : S} → Chain Meets (layout fresh) log last → Tallies log
  chain-tally {log = log} chain = rw (chain_run Meets layout each chain).0 at (tally (map call_of log))

-- Of two rows with saved ticks the second is struck: two ticks and an untick count, and one position is ticked. A refused tick, a
-- dropped one and a stale save's count nothing.
abbrev example : List Call
example =
    Enrol 7 1 ∷ Open 0 0 ∷ Tick 0 1 ∷ Tick 0 1 ∷ Tick 0 2 ∷ Untick 0 1 ∷ Open 2 0 ∷ Tick 2 9 ∷ Save 0 ∷ Save 2
    ∷ Enrol 8 1 ∷ Open 1 1 ∷ Tick 1 5 ∷ Save 1 ∷ Strike 1 ∷ Open 1 0 ∷ Tick 1 3 ∷ Drop 1 ∷ []

pub example-13 : (saved_ticks (run fresh example).log ≡ 2)
    × (saved_unticks (run fresh example).log ≡ 1)
    × (ticked (run fresh example).book.places ≡ 1)
unfolding run step refusals judge effect after_refusal valid_key modulus position no_ticks same size has_key all_used lowest_free any_has_open noted
    transaction_from opened_by last_opened filtered marked strikes struck_in counted saved_from ticked
example-13 = (refl, refl, refl)
