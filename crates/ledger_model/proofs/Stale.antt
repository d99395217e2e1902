-- The stale rule, for every list of calls. Assumes nothing.
use Rattle.std.proofs.Common.{◌≡◌, ℕ, true, ◌≢◌, ◌⊎◌, ◌↔◌, List, [], ◌∷◌, ◌++◌, map, get_or, set, sym, refl, ap, ◌∙◌, inl, inr, ⊎_elim, true≢false}
use Rattle.std.proofs.Common.{append_assoc, append-nil, get_or-set_other, eq-eqb, ne_eqb}
use native.Mathlib.Decide.{ℕ_discrete}
use mathlib.Core.Bool.{false≢true}
use mathlib.Core.Option.{Option, none, some}
use lib.Seq.{append_snoc}
use Rattle.laws.proofs.Bools.{by-test}
use Rattle.ledger_model.specs.Positions.{Positions, same}
use Rattle.ledger_model.specs.Book.{Place, free, row, Desk, closed, working, Book, fresh, place, desk, ticks_of, with_ticks, is_desk}
use Rattle.ledger_model.specs.Step.{Call, Enrol, Ask, Open, Mark, Save, Drop, Strike, Answer, done}
use Rattle.ledger_model.specs.Step.{refused, accepted, Reply, step, Entry, ◌⇒◌, call_of, run, book_after}
use Rattle.ledger_model.specs.Stale.{opened_by, later, last_opened, LastOpen, Overtaken}
use Rattle.ledger_model.specs.Claim.{AsOpened}
use Rattle.ledger_model.proofs.Basics.{same_true, same_refl, not-open, put_all, idle-desk}
use Rattle.ledger_model.proofs.Steps.{save-step}
use Rattle.ledger_model.proofs.Outcome.{Outcome, refusal, enrolment, asking, opening, unopened, unmarked}
use Rattle.ledger_model.proofs.Outcome.{marking, saving, stale, dropping, striking, outcome}
use Rattle.ledger_model.proofs.Replay.{in_log, Inv, KeepsOpen, NotOpen, keeps-other, keeps-saved, free-not-open, transaction-snoc, good, fresh-inv}

-- ---- one more entry in a log

later-none : (o : Option ℕ) → o ≡ later none o
later-none none = refl
later-none (some r) = refl

later-assoc : (o p q : Option ℕ) → later o (later p q) ≡ later (later o p) q
later-assoc o p none = refl
later-assoc o p (some r) = refl

pub last_opened-append : (d : ℕ) (xs ys : List Entry) → last_opened d (xs ++ ys) ≡ later (last_opened d xs) (last_opened d ys)
unfolding last_opened
last_opened-append d [] ys = later-none (last_opened d ys)
last_opened-append d (x ∷ xs) ys = rw (last_opened-append d xs ys) (later-assoc (opened_by d x) (last_opened d xs) (last_opened d ys))

-- The row of the last accepted open, and that open as the log grows.
last-opened : (log : List Entry) (d r : ℕ) → LastOpen log d r → last_opened d log ≡ some r
unfolding last_opened opened_by
last-opened log d r k =
    ap (last_opened d) k.split ∙ last_opened-append d k.before _ ∙ rw (k.not_since, k.was_accepted, eq-eqb d d refl)

not-since-snoc : (d : ℕ) (since : List Entry) (e : Entry) → opened_by d e ≡ none → last_opened d since ≡ none → last_opened d (since ++ e ∷ []) ≡ none
unfolding last_opened
not-since-snoc d since e n h = last_opened-append d since (e ∷ []) ∙ rw (h, n)

-- Desk d's last accepted open, and the row that it opened.
pub record Opened (log : List Entry) (d r key first : ℕ) (opened : Positions) : Type 0 where
  pub opening : LastOpen log d r
  pub was-row : place (book_after opening.before) r ≡ row key first opened

opened-snoc : (log : List Entry) (e : Entry) (d r key first : ℕ) (opened : Positions) → opened_by d e ≡ none → Opened log d r key first opened
    → Opened (log ++ e ∷ []) d r key first opened
opened-snoc log e d r key first opened n k =
    let o = k.opening in
    record {
      opening = record {
        before = o.before;
        since = o.since ++ e ∷ [];
        answer = o.answer;
        split = ap (λ l. l ++ e ∷ []) o.split ∙ append_assoc o.before _ _;
        was_accepted = o.was_accepted;
        not_since = not-since-snoc d o.since e n o.not_since;
      };
      was-row = k.was-row;
    }

overtaken-snoc : (log : List Entry) (e : Entry) (d r : ℕ) → opened_by d e ≡ none → Overtaken log d r → Overtaken (log ++ e ∷ []) d r
overtaken-snoc log e d r n o =
    record {
      before = o.before;
      since = o.since ++ e ∷ [];
      other = o.other;
      split = rw o.split (append_assoc o.before _ _);
      is_other = o.is_other;
      saved_row = o.saved_row;
      had_opened = o.had_opened;
      not_since = not-since-snoc d o.since e n o.not_since;
    }

-- ---- the invariant

-- Desk d has row r open: it is the row of the desk's last accepted open, whose set it had as opened; it has the key and the first
-- number that it had then; and if the row's set is not the opened one, another desk saved the row since.
pub record Watching (log : List Entry) (ps : List Place) (d r : ℕ) (opened : Positions) : Type 0 where
  pub is-desk : is_desk d ≡ true
  pub key : ℕ
  pub first : ℕ
  pub was-opened : Opened log d r key first opened
  pub ticks : Positions
  pub has-row : get_or ps r free ≡ row key first ticks
  pub cause : (ticks_of (get_or ps r free) ≡ opened) ⊎ Overtaken log d r

abbrev pub Watched : List Entry → List Place → ℕ → Desk → Type 0
Watched log ps d closed = Unit {0}
Watched log ps d (working r opened worked) = Watching log ps d r opened

abbrev pub Watch : List Entry → Book → Type 0
Watch log b = (d : ℕ) → Watched log b.places d (desk b d)

-- One more entry that is no accepted open of this desk.
watched-snoc : (log : List Entry) (e : Entry) (ps : List Place) (d : ℕ) (x : Desk) → opened_by d e ≡ none
    → Watched log ps d x → Watched (log ++ e ∷ []) ps d x
watched-snoc log e ps d closed n w = tt
watched-snoc log e ps d (working r opened worked) n w =
    record {
      is-desk = w.is-desk;
      key = w.key;
      first = w.first;
      was-opened = opened-snoc log e d r w.key w.first opened n w.was-opened;
      ticks = w.ticks;
      has-row = w.has-row;
      cause = ⊎_elim inl (λ o. inr (overtaken-snoc log e d r n o)) w.cause;
    }

-- The places change: the row of an open desk keeps its key and first number, and its set too, or another desk saved it.
watched-places : (log : List Entry) (b : Book) (qs : List Place) (d : ℕ) → KeepsOpen b qs
    → ((r : ℕ) (opened worked : Positions) → desk b d ≡ working r opened worked
    → (ticks_of (get_or qs r free) ≡ ticks_of (place b r)) ⊎ Overtaken log d r)
    → Watched log b.places d (desk b d) → Watched log qs d (desk b d)
watched-places log b qs d keeps f = at (desk b d) refl
  where
    at : (x : Desk) → desk b d ≡ x → Watched log b.places d x → Watched log qs d x
    at closed e w = tt
    at (working r opened worked) e w =
        let now = keeps d r opened worked e w.key w.first w.ticks w.has-row in
        record {
          is-desk = w.is-desk;
          key = w.key;
          first = w.first;
          was-opened = w.was-opened;
          ticks = now.0;
          has-row = now.1;
          cause = ⊎_elim (λ p. ⊎_elim (λ q. inl (q ∙ p)) inr (f r opened worked e)) inr w.cause;
        }

-- ---- what one call does

pub refused-opens : (d : ℕ) (c : Call) (number : ℕ) → opened_by d (c ⇒ refused number) ≡ none
unfolding opened_by
refused-opens d (Enrol key first) number = refl
refused-opens d (Ask q) number = refl
refused-opens d (Open e r) number = refl
refused-opens d (Mark flag e n) number = refl
refused-opens d (Save e) number = refl
refused-opens d (Drop e) number = refl
refused-opens d (Strike r) number = refl

module _ (log : List Entry) (b : Book) (is : b ≡ book_after log) (h : Inv b (in_log log)) (w : Watch log b) where
  grown : (e : Entry) (d : ℕ) → opened_by d e ≡ none → Watched (log ++ e ∷ []) b.places d (desk b d)
  grown e d n = watched-snoc log e b.places d (desk b d) n (w d)

  -- A desk is put that has the same row open as before, or none.
  desk-watch : (e : Entry) (d : ℕ) (x : Desk) → ((d' : ℕ) → opened_by d' e ≡ none) → Watched (log ++ e ∷ []) b.places d x
      → (d' : ℕ) → Watched (log ++ e ∷ []) b.places d' (get_or (set b.desks d x) d' closed)
  desk-watch e d x n k = put_all closed (Watched _ b.places) b.desks d x tt k (λ d' m. grown e d' (n d'))

  -- A place changes that no desk has open.
  place-watch : (e : Entry) (r : ℕ) (p : Place) → ((d : ℕ) → opened_by d e ≡ none) → NotOpen b r
      → (d : ℕ) → Watched (log ++ e ∷ []) (set b.places r p) d (desk b d)
  place-watch e r p none-opened n d =
      watched-places _ b _ d (keeps-other b r p n)
      (λ r' opened worked x. inl (ap ticks_of (get_or-set_other b.places r r' p free (n d r' opened worked x))))
      (grown e d (none-opened d))

  -- Another desk with the saved row open is overtaken.
  save-watch : (d r : ℕ) (opened worked : Positions) → desk b d ≡ working r opened worked
      → (e : ℕ) → e ≢ d → Watched (log ++ (Save d ⇒ done) ∷ []) (set b.places r (with_ticks worked (place b r))) e (desk b e)
  unfolding opened_by last_opened
  save-watch d r opened worked x e n =
      watched-places _ b _ e (keeps-saved b r worked) (λ r' opened' worked' y. at r' (ℕ_discrete r' r) (rw y at (w e))) (grown _ e refl)
    where
      saver : Watching log b.places d r opened
      saver = rw x at (w d)

      at : (r' : ℕ) {opened' : Positions} → Dec (r' ≡ r) → Watching log b.places e r' opened'
          → (ticks_of (get_or (set b.places r (with_ticks worked (place b r))) r' free) ≡ ticks_of (place b r'))
          ⊎ Overtaken (log ++ (Save d ⇒ done) ∷ []) e r'
      at r' (yes q) k =
          inr
          record {
            before = log;
            since = [];
            other = d;
            split = refl;
            is_other = λ q'. n (sym q');
            saved_row = rw q (last-opened log d r saver.was-opened.opening);
            had_opened = last-opened log e r' k.was-opened.opening;
            not_since = refl;
          }
      at r' (no m) k = inl (ap ticks_of (get_or-set_other b.places r r' _ free m))

  watch : {c : Call} {s : Reply} → Outcome b c s → Watch (log ++ (c ⇒ s.answer) ∷ []) s.book
  unfolding opened_by last_opened
  watch (refusal {c = c} number m) = λ d. grown _ d (refused-opens d c number)
  watch (enrolment a) = place-watch _ _ _ (λ d. refl) (free-not-open b log h _ a.is-lowest.is_free_lem)
  watch (asking words) = λ d. grown _ d refl
  watch (opening {d = d} {r = r} key first s t e x) =
      put_all closed (Watched _ b.places) b.desks d _ tt
      record {
        is-desk = t;
        key = key;
        first = first;
        was-opened = record {
          opening = record { before = log; since = []; answer = done; split = refl; was_accepted = refl; not_since = refl };
          was-row = sym (ap (λ x. place x r) is) ∙ e;
        };
        ticks = s;
        has-row = e;
        cause = inl (ap ticks_of e);
      }
      (λ d' n. grown _ d' (rw (ne_eqb d d' (λ q. n (sym q)))))
  watch (unopened number f) = λ d. grown _ d refl
  watch (unmarked r opened worked i number e p q z) = λ d. grown _ d refl
  watch (marking {flag = flag} {d = d} {n = n} r opened worked i e p q) =
      desk-watch _ d _ (λ d'. refl) (rw e.1 at (grown (Mark flag d n ⇒ done) d refl))
  watch (saving {d = d} r opened worked e t) = put_all closed (Watched _ _) b.desks d closed tt tt (save-watch d r opened worked e.1)
  watch (stale {d = d} r opened worked e t) = desk-watch _ d closed (λ d'. refl) tt
  watch (dropping {d = d} t x) = desk-watch _ d closed (λ d'. refl) tt
  watch (striking {r = r} f n) = place-watch _ r free (λ d. refl) (λ d q opened worked. not-open b.desks r d q opened worked n)

-- ---- the whole list

book_snoc : (past : List Entry) (b : Book) (c : Call) (a : Answer)
    → (run b (map call_of (past ++ (c ⇒ a) ∷ []))).book ≡ (step c (run b (map call_of past)).book).book
unfolding run
book_snoc [] b c a = refl
book_snoc ((x ⇒ y) ∷ past) b c a = book_snoc past (step x b).book c a

watch-run : (calls : List Call) (past : List Entry) (b : Book) → b ≡ book_after past → Inv b (in_log past) → Watch past b
    → Watch (past ++ (run b calls).log) (run b calls).book
unfolding run
watch-run [] past b is h w = rw append-nil w
watch-run (c ∷ calls) past b is h w =
    rw
    (← append_snoc past (c ⇒ (step c b).answer) (run (step c b).book calls).log)
    (watch-run calls _ _ (ap (λ x. (step c x).book) is ∙ sym (book_snoc past fresh c _))
    (λ d. rw (transaction-snoc d [] past) ((good b past h (outcome c b)).inv d)) (watch past b is h w (outcome c b)))

fresh-is : fresh ≡ book_after []
unfolding run
fresh-is = refl

-- Of a desk with a row open after any list of calls.
pub watching : (calls : List Call) (d r : ℕ) (opened worked : Positions) → desk (run fresh calls).book d ≡ working r opened worked
    → Watching (run fresh calls).log (run fresh calls).book.places d r opened
watching calls d r opened worked e = rw e at (watch-run calls [] fresh fresh-is fresh-inv (λ d'. rw (idle-desk 8 d') tt) d)

-- The row that a desk has open after a log, as the claim has it. `is-log`: the answers of the log are the model's.
pub opened-row : (past : List Entry) → (run fresh (map call_of past)).log ≡ past → (d r : ℕ) (opened worked : Positions)
    → desk (book_after past) d ≡ working r opened worked → AsOpened past d r opened
opened-row past is-log d r opened worked e =
    let w = watching (map call_of past) d r opened worked e in
    let o : Opened past d r w.key w.first opened = rw is-log at w.was-opened in
    record {
      opening = o.opening;
      key = w.key;
      first = w.first;
      was-row = o.was-row;
      same_stream = w.has-row ∙ ap (row w.key w.first) (sym (ap ticks_of w.has-row));
    }

-- An accepted save is by a desk with a row open.
pub record OpenDesk (b : Book) (d : ℕ) : Type 0 where
  pub row : ℕ
  pub opened : Positions
  pub worked : Positions
  pub is : desk b d ≡ working row opened worked

pub save-open : (b : Book) (d : ℕ) → accepted (step (Save d) b).answer ≡ true → OpenDesk b d
save-open b d = at (outcome (Save d) b)
  where
    at : {s : Reply} → Outcome b (Save d) s → accepted s.answer ≡ true → OpenDesk b d
    at (refusal number m) a = absurd (false≢true a)
    at (saving r opened worked h t) a = record { row = r; opened = opened; worked = worked; is = h.1 }
    at (stale r opened worked h t) a = absurd (false≢true a)

-- On any book, a save by a desk with a row open is stale exactly when the row's set is not the opened one.
pub stale-exactly : (b : Book) (d r : ℕ) (opened worked : Positions) → is_desk d ≡ true → desk b d ≡ working r opened worked
    → ((step (Save d) b).answer ≡ refused 31) ↔ (ticks_of (place b r) ≢ opened)
stale-exactly b d r opened worked t e =
    rw (save-step b d t r opened worked e)
    (by-test
    (λ (s : Reply). (s.answer ≡ refused 31) ↔ (ticks_of (place b r) ≢ opened))
    (same (ticks_of (place b r)) opened)
    (λ u. (λ a. absurd (false≢true cc), λ n. absurd (n (same_true _ _ u))))
    (λ u. (λ a p. true≢false (sym (same_refl opened) ∙ (rw p at u)), λ n. refl)))

-- After any list of calls, a stale save has its cause.
pub stale-cause : (calls : List Call) (d r : ℕ) (opened worked : Positions) → desk (run fresh calls).book d ≡ working r opened worked
    → (step (Save d) (run fresh calls).book).answer ≡ refused 31 → Overtaken (run fresh calls).log d r
stale-cause calls d r opened worked e a =
    let k = watching calls d r opened worked e in
    ⊎_elim (λ p. absurd ((stale-exactly (run fresh calls).book d r opened worked k.is-desk e).0 a p)) (λ o. o) k.cause
