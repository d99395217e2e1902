-- Laws of the serial history that hold of every log, also of a log that no run gives: its entries are entries of the log; its accepted enrolments,
-- strikes and saves are those of the log, in their order; and a transaction is the desk's last accepted open and all its ticks and unticks since.
-- Assumes nothing.
use Rattle.std.proofs.Common.{◌≡◌, ℕ, Bool, true, false, cond, ◌&&◌, eqb, List, [], ◌∷◌, ◌++◌, sym, refl, ap, ◌∙◌, append_assoc, append-nil, eq-eqb}
use mathlib.Core.Path.{subst⁻¹}
use mathlib.Core.Option.{Option, none, some}
use mathlib.Core.List.Memᴰ
use mathlib.Core.List.{Memᴰ}
use lib.Seq.{append_snoc}
use Rattle.laws.proofs.Bools.{by-test}
use Rattle.ledger_model.specs.Lists.{filtered}
use Rattle.ledger_model.specs.Step.{Enrol, Ask, Open, Mark, Save, Drop, Strike, Answer, gave, refused, accepted, Entry, ◌⇒◌, call_of}
use Rattle.ledger_model.specs.History.{noted, transaction_from, transaction, marks, marks_of, kept, serial_from, serial, is_result, results}
use Rattle.ledger_model.specs.Stale.{opened_by, later, last_opened, LastOpen}

-- ---- the entries

-- What holds of every entry of a log.
unfoldable pub All : (Entry → Type 0) → List Entry → Type 0
All P [] = Unit {0}
All P (e ∷ log) = P e × All P log

module _ (P : Entry → Type 0) where
  all_append : (xs ys : List Entry) → All P xs → All P ys → All P (xs ++ ys)
  unfolding All
  all_append [] ys f g = g
  all_append (x ∷ xs) ys f g = (f.0, all_append xs ys f.1 g)

  all_one : (e : Entry) → P e → All P (e ∷ [])
  unfolding All
  all_one e p = (p, tt)

  noted-all : (d : ℕ) (t : List Entry) (e : Entry) → All P t → P e → All P (noted d t e)
  unfolding noted
  noted-all d t (Enrol key first ⇒ a) f p = f
  noted-all d t (Ask q ⇒ a) f p = f
  noted-all d t (Open e r ⇒ a) f p = by-test (All P) (accepted a && eqb e d) (λ _. all_one _ p) (λ _. f)
  noted-all d t (Mark flag e n ⇒ a) f p = by-test (All P) (eqb e d) (λ _. all_append t _ f (all_one _ p)) (λ _. f)
  noted-all d t (Save e ⇒ a) f p = f
  noted-all d t (Drop e ⇒ a) f p = f
  noted-all d t (Strike r ⇒ a) f p = f

  transaction-all : (d : ℕ) (t log : List Entry) → All P t → All P log → All P (transaction_from d t log)
  unfolding transaction_from All
  transaction-all d t [] f g = f
  transaction-all d t (e ∷ log) f g = transaction-all d (noted d t e) log (noted-all d t e f g.0) g.1

  kept-all : (past : List Entry) (e : Entry) → All P past → P e → All P (kept past e)
  unfolding kept All
  kept-all past (Enrol key first ⇒ a) f p = by-test (All P) (accepted a) (λ _. all_one _ p) (λ _. tt)
  kept-all past (Ask q ⇒ a) f p = tt
  kept-all past (Open d r ⇒ a) f p = tt
  kept-all past (Mark flag d n ⇒ a) f p = tt
  kept-all past (Save d ⇒ a) f p =
      by-test (All P) (accepted a) (λ _. all_append (transaction d past) _ (transaction-all d [] past tt f) (all_one _ p)) (λ _. tt)
  kept-all past (Drop d ⇒ a) f p = tt
  kept-all past (Strike r ⇒ a) f p = by-test (All P) (accepted a) (λ _. all_one _ p) (λ _. tt)

  serial_from-all : (past log : List Entry) → All P past → All P log → All P (serial_from past log)
  unfolding serial_from All
  serial_from-all past [] f g = tt
  serial_from-all past (e ∷ log) f g =
      all_append (kept past e) _ (kept-all past e f g.0) (serial_from-all (past ++ e ∷ []) log (all_append past _ f (all_one e g.0)) g.1)

  -- What holds of every entry of a log holds of every entry of its serial history.
  pub serial-all : (log : List Entry) → All P log → All P (serial log)
  unfolding All
  serial-all log f = serial_from-all [] log tt f

  all-member : (log : List Entry) → All P log → (e : Entry) → Memᴰ e log → P e
  unfolding All
  all-member [] f e m = absurd (Memᴰ.not-nil m)
  all-member (x ∷ log) f e (Memᴰ.head q) = subst⁻¹ P q f.0
  all-member (x ∷ log) f e (Memᴰ.tail m) = all-member log f.1 e m

  member-all : (log : List Entry) → ((e : Entry) → Memᴰ e log → P e) → All P log
  unfolding All
  member-all [] f = tt
  member-all (x ∷ log) f = (f x (Memᴰ.head refl), member-all log (λ e m. f e (Memᴰ.tail m)))

pub serial-entries : (log : List Entry) (e : Entry) → Memᴰ e (serial log) → Memᴰ e log
serial-entries log =
    all-member (λ e. Memᴰ e log) (serial log) (serial-all (λ e. Memᴰ e log) log (member-all (λ e. Memᴰ e log) log (λ e m. m)))

-- ---- the results

pub filtered-append : {A : Type 0} (f : A → Bool) (xs ys : List A) → filtered f (xs ++ ys) ≡ filtered f xs ++ filtered f ys
unfolding filtered
filtered-append f [] ys = refl
filtered-append f (x ∷ xs) ys = at (f x) (filtered-append f xs ys)
  where
    at : (t : Bool) → filtered f (xs ++ ys) ≡ filtered f xs ++ filtered f ys
        → cond t (x ∷ filtered f (xs ++ ys)) (filtered f (xs ++ ys)) ≡ cond t (x ∷ filtered f xs) (filtered f xs) ++ filtered f ys
    at true e = rw e
    at false e = e

results-append : (xs ys : List Entry) → results (xs ++ ys) ≡ results xs ++ results ys
results-append = filtered-append is_result

-- A transaction holds no results.
noted-none : (d : ℕ) (t : List Entry) (e : Entry) → results t ≡ [] → results (noted d t e) ≡ []
unfolding noted filtered is_result
noted-none d t (Enrol key first ⇒ a) h = h
noted-none d t (Ask q ⇒ a) h = h
noted-none d t (Open e r ⇒ a) h = by-test (λ es. results es ≡ []) (accepted a && eqb e d) (λ _. refl) (λ _. h)
noted-none d t (Mark flag e n ⇒ a) h = by-test (λ es. results es ≡ []) (eqb e d) (λ _. rw (results-append t _, h)) (λ _. h)
noted-none d t (Save e ⇒ a) h = h
noted-none d t (Drop e ⇒ a) h = h
noted-none d t (Strike r ⇒ a) h = h

transaction-none : (d : ℕ) (t log : List Entry) → results t ≡ [] → results (transaction_from d t log) ≡ []
unfolding transaction_from
transaction-none d t [] h = h
transaction-none d t (e ∷ log) h = transaction-none d (noted d t e) log (noted-none d t e h)

kept-results : (past : List Entry) (e : Entry) → results (kept past e) ≡ results (e ∷ [])
unfolding kept filtered is_result
kept-results past (Enrol key first ⇒ gave words) = refl
kept-results past (Enrol key first ⇒ refused number) = refl
kept-results past (Ask q ⇒ a) = refl
kept-results past (Open d r ⇒ a) = refl
kept-results past (Mark flag d n ⇒ a) = refl
kept-results past (Save d ⇒ gave words) = rw (results-append (transaction d past) _, transaction-none d [] past refl)
kept-results past (Save d ⇒ refused number) = refl
kept-results past (Drop d ⇒ a) = refl
kept-results past (Strike r ⇒ gave words) = refl
kept-results past (Strike r ⇒ refused number) = refl

serial_from-results : (past log : List Entry) → results (serial_from past log) ≡ results log
unfolding serial_from filtered
serial_from-results past [] = refl
serial_from-results past (e ∷ log) =
    rw (results-append (kept past e) _, kept-results past e, serial_from-results (past ++ e ∷ []) log) (sym (results-append (e ∷ []) log))

pub serial-order : (log : List Entry) → results (serial log) ≡ results log
unfolding filtered
serial-order log = serial_from-results [] log

-- ---- a transaction

noted-mark : (d : ℕ) (t : List Entry) (e : Entry) → opened_by d e ≡ none → noted d t e ≡ t ++ marks_of d (e ∷ [])
unfolding noted opened_by marks filtered
noted-mark d t (Enrol key first ⇒ a) o = sym (append-nil t)
noted-mark d t (Ask q ⇒ a) o = sym (append-nil t)
noted-mark d t (Open e r ⇒ a) o = at (accepted a && eqb e d) o
  where
    at : (u : Bool) → cond u (some r) none ≡ none → cond u ((Open e r ⇒ a) ∷ []) t ≡ t ++ []
    at true o = cc
    at false o = sym (append-nil t)
noted-mark d t (Mark flag e n ⇒ a) o = at (eqb e d)
  where
    at : (u : Bool) → cond u (t ++ (Mark flag e n ⇒ a) ∷ []) t ≡ t ++ cond u ((Mark flag e n ⇒ a) ∷ []) []
    at true = refl
    at false = sym (append-nil t)
noted-mark d t (Save e ⇒ a) o = sym (append-nil t)
noted-mark d t (Drop e ⇒ a) o = sym (append-nil t)
noted-mark d t (Strike r ⇒ a) o = sym (append-nil t)

later-is-none : (o p : Option ℕ) → later o p ≡ none → (o ≡ none) × (p ≡ none)
later-is-none o none e = (e, refl)
later-is-none o (some r) e = (cc, cc)

-- Where the desk opens nothing, its transaction goes on by its ticks and unticks.
goes_on_lem : (d : ℕ) (t log : List Entry) → last_opened d log ≡ none → transaction_from d t log ≡ t ++ marks_of d log
unfolding transaction_from last_opened filtered
goes_on_lem d t [] n = sym (append-nil t)
goes_on_lem d t (e ∷ log) n =
    let m = later-is-none (opened_by d e) (last_opened d log) n in
    let split = ap (λ u. t ++ u) (sym (filtered-append (λ x. marks d (call_of x)) (e ∷ []) log)) in
    goes_on_lem d (noted d t e) log m.1 ∙ rw (noted-mark d t e m.0) (append_assoc t _ _ ∙ split)

transaction-append : (d : ℕ) (t xs ys : List Entry) → transaction_from d t (xs ++ ys) ≡ transaction_from d (transaction_from d t xs) ys
unfolding transaction_from
transaction-append d t [] ys = refl
transaction-append d t (x ∷ xs) ys = transaction-append d (noted d t x) xs ys

-- A desk's transaction is its last accepted open, and all its ticks and unticks since.
pub transaction-is : (d r : ℕ) (a : Answer) (before since : List Entry) → accepted a ≡ true → last_opened d since ≡ none
    → transaction d (before ++ (Open d r ⇒ a) ∷ since) ≡ (Open d r ⇒ a) ∷ marks_of d since
unfolding transaction_from noted
transaction-is d r a before since t n =
    transaction-append d [] before _ ∙ ap (λ u. transaction_from d u since) begun ∙ goes_on_lem d ((Open d r ⇒ a) ∷ []) since n
  where
    begun : noted d (transaction d before) (Open d r ⇒ a) ≡ (Open d r ⇒ a) ∷ []
    begun = rw (t, eq-eqb d d refl)

-- ---- where an accepted save stands

serial-append : (past xs ys : List Entry) → serial_from past (xs ++ ys) ≡ serial_from past xs ++ serial_from (past ++ xs) ys
unfolding serial_from
serial-append past [] ys = rw append-nil
serial-append past (x ∷ xs) ys =
    rw (serial-append (past ++ x ∷ []) xs ys, append_snoc past x xs) (sym (append_assoc (kept past x) _ _))

pub save-stands : (past future : List Entry) (d r : ℕ) (a : Answer) (k : LastOpen past d r) → accepted a ≡ true
    → serial (past ++ (Save d ⇒ a) ∷ future)
    ≡ serial past ++ ((Open d r ⇒ k.answer) ∷ marks_of d k.since) ++ (Save d ⇒ a) ∷ serial_from (past ++ (Save d ⇒ a) ∷ []) future
unfolding serial_from kept
save-stands past future d r a k t =
    serial-append [] past _ ∙ rw (t, append_assoc (transaction d past), whole) (sym (append_assoc (serial past) _ _))
  where
    whole : transaction d past ≡ (Open d r ⇒ k.answer) ∷ marks_of d k.since
    whole = ap (transaction d) k.split ∙ transaction-is d r k.answer k.before k.since k.was_accepted k.not_since
