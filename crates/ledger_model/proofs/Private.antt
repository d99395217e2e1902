-- Request 09: a desk's ticks and unticks that it never saves change no other answer, no place and no other desk. Assumes nothing.
use Rattle.std.proofs.Common.{◌≡◌, ℕ, zero, suc, Bool, true, false, cond, ◌||◌, eqb, ◌≢◌, List, [], ◌∷◌, get_or, set, sym, refl, ap, ◌∙◌, get_or-set_other}
use Rattle.std.proofs.Common.{set-set, eqb-true}
use native.Mathlib.Decide.{ℕ_discrete}
use lib.Seq.{set_comm}
use borrow.Author.Tests.{eqb-false}
use Rattle.refusals.specs.Judge.{judge, verdict}
use Rattle.ledger_model.specs.Lists.{filtered}
use Rattle.keys.specs.Key.{valid_key}
use Rattle.keys.specs.Numbers.{modulus}
use Rattle.ledger_model.specs.Positions.{position, Positions, no_ticks, same, size, missing, any_ticked, least}
use Rattle.ledger_model.specs.Book.{Desk, closed, working, Book, fresh, desk, put_place, put_desk}
use Rattle.ledger_model.specs.Book.{is_open, with_worked, opened_of, has_key, all_used, lowest_free, any_has_open}
use Rattle.ledger_model.specs.Counts.{desk_state}
use Rattle.ledger_model.specs.Step.{Question, Find, RowReport, FirstGap, RowStream, DeskState, Unsaved}
use Rattle.ledger_model.specs.Step.{Call, Enrol, Ask, Open, Mark, Save, Drop, Strike}
use Rattle.ledger_model.specs.Step.{Reply, reply, refusals, asked, effect, after_refusal, step, run}
use Rattle.ledger_model.specs.Private.{saves, NoSave, is_own, without_own, without_own_log, Alike, Privacy, SaveShows}
use Rattle.ledger_model.proofs.Outcome.{Outcome, refusal, asking, unopened, unmarked as not-marked, marking, outcome}

-- ---- the book in which desk d has ticked and unticked nothing since its open

abbrev clean : Desk → Desk
clean x = with_worked (opened_of x) x

abbrev untouched : ℕ → Book → Book
untouched d b = put_desk d (clean (desk b d)) b

abbrev cleaned : ℕ → Reply → Reply
cleaned d s = reply s.answer (untouched d s.book)

-- Desk d read back, and put again. A desk that is not there stays not there.
read-clean : (xs : List Desk) (d : ℕ) → get_or (set xs d (clean (get_or xs d closed))) d closed ≡ clean (get_or xs d closed)
read-clean [] d = refl
read-clean (x ∷ xs) zero = refl
read-clean (x ∷ xs) (suc d) = read-clean xs d

clean-put : (xs : List Desk) (d : ℕ) (x y : Desk) → clean x ≡ y → set (set xs d x) d (clean (get_or (set xs d x) d closed)) ≡ set xs d y
clean-put [] d x y e = refl
clean-put (z ∷ xs) zero x y e = rw e
clean-put (z ∷ xs) (suc d) x y e = rw (clean-put xs d x y e)

clean-open : (x : Desk) → is_open (clean x) ≡ is_open x
clean-open closed = refl
clean-open (working r opened worked) = refl

clean-any : (xs : List Desk) (d r : ℕ) → any_has_open r (set xs d (clean (get_or xs d closed))) ≡ any_has_open r xs
unfolding any_has_open
clean-any [] d r = refl
clean-any (closed ∷ xs) zero r = refl
clean-any (working q opened worked ∷ xs) zero r = refl
clean-any (closed ∷ xs) (suc d) r = clean-any xs d r
clean-any (working q opened worked ∷ xs) (suc d) r = ap (λ t. eqb q r || t) (clean-any xs d r)

-- ---- calls on such a book

module _ (d : ℕ) (b : Book) where
  desk-other : (e : ℕ) → e ≢ d → desk (untouched d b) e ≡ desk b e
  desk-other e n = get_or-set_other b.desks d e _ closed n

  put_other : (e : ℕ) (x : Desk) → e ≢ d → put_desk e x (untouched d b) ≡ untouched d (put_desk e x b)
  put_other e x n = rw (get_or-set_other b.desks e d x closed (λ q. n (sym q)), set_comm b.desks d e (clean (desk b d)) x (λ q. n (sym q)))

  -- Of any desk, desk d too, it is seen whether it is open.
  open_any : (e : ℕ) → is_open (desk (untouched d b) e) ≡ is_open (desk b e)
  open_any e = at (ℕ_discrete e d)
    where
      at : Dec (e ≡ d) → is_open (desk (untouched d b) e) ≡ is_open (desk b e)
      at (yes q) = rw (q, read-clean b.desks d) (clean-open (desk b d))
      at (no n) = rw (desk-other e n)

  -- Of any desk, its row and whether a save would be stale.
  state-any : (e : ℕ) → desk_state b.places (desk (untouched d b) e) ≡ desk_state b.places (desk b e)
  state-any e = at (ℕ_discrete e d)
    where
      clean-state : (x : Desk) → desk_state b.places (clean x) ≡ desk_state b.places x
      clean-state closed = refl
      clean-state (working r opened worked) = refl

      at : Dec (e ≡ d) → desk_state b.places (desk (untouched d b) e) ≡ desk_state b.places (desk b e)
      at (yes q) = rw (q, read-clean b.desks d) (clean-state (desk b d))
      at (no n) = rw (desk-other e n)

  put-any : (e : ℕ) (x : Desk) → clean x ≡ x → put_desk e x (untouched d b) ≡ untouched d (put_desk e x b)
  put-any e x c = at (ℕ_discrete e d)
    where
      at : Dec (e ≡ d) → put_desk e x (untouched d b) ≡ untouched d (put_desk e x b)
      at (yes q) = rw (q, set-set b.desks d _ x, clean-put b.desks d x x c)
      at (no n) = put_other e x n

-- A call that is not desk d's own affair, nor its save, is refused alike, has the same effect, and leaves the same where it is refused.
module _ (d : ℕ) (b : Book) where
  refusals-alike : (c : Call) → is_own d c ≡ false → saves d c ≡ false → refusals c (untouched d b) ≡ refusals c b
  unfolding refusals is_own saves
  refusals-alike (Enrol key first) m s = refl
  refusals-alike (Ask (Find key)) m s = refl
  refusals-alike (Ask (RowReport r)) m s = refl
  refusals-alike (Ask FirstGap) m s = refl
  refusals-alike (Ask (RowStream r)) m s = refl
  refusals-alike (Ask (DeskState e)) m s = refl
  refusals-alike (Ask (Unsaved e)) m s = rw (open_any d b e)
  refusals-alike (Open e r) m s = rw (open_any d b e)
  refusals-alike (Mark flag e n) m s = rw (desk-other d b e (eqb-false e d m))
  refusals-alike (Save e) m s = rw (desk-other d b e (eqb-false e d s))
  refusals-alike (Drop e) m s = rw (open_any d b e)
  refusals-alike (Strike r) m s = rw (clean-any b.desks d r)

  effect-alike : (c : Call) → is_own d c ≡ false → saves d c ≡ false → effect c (untouched d b) ≡ cleaned d (effect c b)
  unfolding effect asked is_own saves
  effect-alike (Enrol key first) m s = refl
  effect-alike (Ask (Find key)) m s = refl
  effect-alike (Ask (RowReport r)) m s = refl
  effect-alike (Ask FirstGap) m s = refl
  effect-alike (Ask (RowStream r)) m s = refl
  effect-alike (Ask (DeskState e)) m s = rw (state-any d b e)
  effect-alike (Ask (Unsaved e)) m s = rw (desk-other d b e (eqb-false e d m))
  effect-alike (Open e r) m s = rw (put-any d b e _ refl)
  effect-alike (Mark flag e n) m s = let k = eqb-false e d m in rw (desk-other d b e k, put_other d b e _ k)
  effect-alike (Save e) m s = let k = eqb-false e d s in rw (desk-other d b e k, put_other d (put_place _ _ b) e closed k)
  effect-alike (Drop e) m s = rw (put-any d b e closed refl)
  effect-alike (Strike r) m s = refl

  after-alike : (number : ℕ) (c : Call) → saves d c ≡ false → after_refusal number c (untouched d b) ≡ untouched d (after_refusal number c b)
  unfolding after_refusal saves
  after-alike number (Enrol key first) s = refl
  after-alike number (Ask q) s = refl
  after-alike number (Open e r) s = refl
  after-alike number (Mark flag e n) s = refl
  after-alike number (Save e) s = at (eqb number 31)
    where
      at : (t : Bool) → cond t (put_desk e closed (untouched d b)) (untouched d b) ≡ untouched d (cond t (put_desk e closed b) b)
      at true = put_other d b e closed (eqb-false e d s)
      at false = refl
  after-alike number (Drop e) s = refl
  after-alike number (Strike r) s = refl

  alike : (c : Call) → is_own d c ≡ false → saves d c ≡ false → step c (untouched d b) ≡ cleaned d (step c b)
  unfolding step
  alike c m s = rw (refusals-alike c m s, effect-alike c m s, after-alike (verdict (refusals c b)) c s) (at (eqb (verdict (refusals c b)) 0) _ _)
    where
      at : (t : Bool) (x y : Reply) → cond t (cleaned d x) (cleaned d y) ≡ cleaned d (cond t x y)
      at true x y = refl
      at false x y = refl

  -- A question leaves the book; a tick or an untick of desk d itself leaves all but its worked set.
  asking-stays : (q : Question) (c : Book) → (step (Ask q) c).book ≡ c
  asking-stays q c = at (outcome (Ask q) c)
    where
      at : {s : Reply} → Outcome c (Ask q) s → s.book ≡ c
      at (refusal number m) = refl
      at (asking words) = refl

  own-mark : {flag : Bool} {e n : ℕ} {s : Reply} → Outcome b (Mark flag e n) s → e ≡ d → untouched d s.book ≡ untouched d b
  own-mark (refusal number m) q = cc
  own-mark (unopened number f) q = refl
  own-mark (not-marked r opened worked i number h p k z) q = refl
  own-mark (marking {flag = flag} r opened worked i h p k) q =
      let marked = working r opened (set worked i flag) in
      rw q (ap (λ ds. record { places = b.places; desks = ds }) (clean-put b.desks d marked (clean (desk b d)) (sym (ap clean (rw q at h.1)))))

  own : (c : Call) → is_own d c ≡ true → untouched d (step c b).book ≡ untouched d b
  unfolding is_own
  own (Enrol key first) m = cc
  own (Ask (Find key)) m = cc
  own (Ask (RowReport r)) m = cc
  own (Ask FirstGap) m = cc
  own (Ask (RowStream r)) m = cc
  own (Ask (DeskState e)) m = cc
  own (Ask (Unsaved e)) m = rw (asking-stays (Unsaved e) b)
  own (Open e r) m = cc
  own (Mark flag e n) m = own-mark (outcome (Mark flag e n) b) (eqb-true e d m)
  own (Save e) m = cc
  own (Drop e) m = cc
  own (Strike r) m = cc

-- ---- the whole list

-- The first call of a list in which desk d makes no save, and the others.
no-save : (d : ℕ) (c : Call) (calls : List Call) → NoSave d (c ∷ calls) → (saves d c ≡ false) × NoSave d calls
unfolding filtered
no-save d c calls n = at (saves d c) n
  where
    at : (t : Bool) → cond t (c ∷ filtered (saves d) calls) (filtered (saves d) calls) ≡ [] → (t ≡ false) × NoSave d calls
    at true e = (cc, cc)
    at false e = (refl, e)

-- The run without desk d's ticks and unticks, from a book in which desk d made none.
without : (d : ℕ) (calls : List Call) (b : Book) → NoSave d calls
    → run (untouched d b) (without_own d calls) ≡ record { log = without_own_log d (run b calls).log; book = untouched d (run b calls).book }
unfolding run filtered
without d [] b n = refl
without d (c ∷ calls) b n = at (is_own d c) refl (no-save d c calls n) (without d calls (step c b).book)
  where
    at : (t : Bool) → is_own d c ≡ t → (saves d c ≡ false) × NoSave d calls
        → (NoSave d calls
        → run (untouched d (step c b).book) (without_own d calls)
        ≡ record { log = without_own_log d (run (step c b).book calls).log; book = untouched d (run (step c b).book calls).book })
        → run (untouched d b) (without_own d (c ∷ calls))
        ≡ record { log = without_own_log d (run b (c ∷ calls)).log; book = untouched d (run b (c ∷ calls)).book }
    at true m k rest = rw (m, ← own d b c m) (rest k.1)
    at false m k rest = rw (m, alike d b c m k.0, rest k.1)

-- Books that are the same once desk d's ticks and unticks are forgotten.
books-alike : (d : ℕ) (b c : Book) → untouched d b ≡ untouched d c → Alike d b c
books-alike d b c e =
    record {
      places_same = ap (λ x. x.places) e;
      desks_same = λ q n. sym (desk-other d b q n) ∙ ap (λ x. desk x q) e ∙ desk-other d c q n;
      own_same = λ s. sym (worked-again s (desk b d)) ∙ ap (with_worked s) own-clean ∙ worked-again s (desk c d);
    }
  where
    own-clean : clean (desk b d) ≡ clean (desk c d)
    own-clean = sym (read-clean b.desks d) ∙ ap (λ x. desk x d) e ∙ read-clean c.desks d

    worked-again : (s : Positions) (x : Desk) → with_worked s (clean x) ≡ with_worked s x
    worked-again s closed = refl
    worked-again s (working r opened worked) = refl

pub model-private : Privacy
model-private d xs ys k =
    let both = sym (without d xs fresh k.no_save_left) ∙ ap (run (untouched d fresh)) k.others_same ∙ without d ys fresh k.no_save_right in
    record { answers-same = ap (λ r. r.log) both; books-alike = books-alike d _ _ (ap (λ r. r.book) both) }

-- Where desk 0 saves, the tick is seen: that it makes no save is needed.
pub save-shows : SaveShows
unfolding filtered is_own run step refusals judge effect asked after_refusal valid_key modulus position no_ticks has_key all_used lowest_free same size missing
    any_ticked least
save-shows = (refl, refl, refl)
