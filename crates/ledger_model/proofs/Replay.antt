-- The serial history, run on a fresh book, gives every call the answer that it had in the log, and ends with the same places and no
-- desk open. Assumes nothing.
use Rattle.std.proofs.Common.{◌≡◌, ℕ, Bool, true, false, cond, eqb, ◌≢◌, List, [], ◌∷◌, ◌++◌, map, get_or, set, sym, refl, ap, ◌∙◌, get_or-set_other}
use Rattle.std.proofs.Common.{get_or-set_same, set-set, eq-eqb, ne_eqb}
use native.Mathlib.Decide.{ℕ_discrete}
use mathlib.Core.Path.{subst⁻¹}
use mathlib.Core.Bool.{false≢true}
use lib.Seq.{set-get_or}
use Rattle.refusals.specs.Judge.{judge}
use Rattle.ledger_model.specs.Positions.{Positions, same}
use Rattle.ledger_model.specs.Book.{Place, free, row, Desk, closed, working, Book, idle, fresh}
use Rattle.ledger_model.specs.Book.{place, desk, put_place, put_desk, ticks_of, with_ticks, is_desk, any_has_open, position_at}
use Rattle.ledger_model.specs.Step.{Call, Enrol, Ask, Open, Mark, Save, Drop, Strike, Answer, done}
use Rattle.ledger_model.specs.Step.{refused, Reply, reply, refusals, effect, step, Entry, ◌⇒◌, call_of, run}
use Rattle.ledger_model.specs.History.{noted, transaction_from, transaction, kept, serial_from, serial}
use Rattle.ledger_model.specs.Chain.{Chain, stop, next}
use Rattle.ledger_model.specs.inner.Steps.{Steps}
use Rattle.ledger_model.proofs.Basics.{same_true, row-not-free, row_in, not-open, put_all, idle-desk, idle-close, at-desk}
use Rattle.ledger_model.proofs.Steps.{mark_verdict, open_step, mark-step, save-step}
use Rattle.ledger_model.proofs.Outcome.{is_mark, Outcome, refusal, enrolment, asking, opening, unopened}
use Rattle.ledger_model.proofs.Outcome.{unmarked, marking, saving, stale, dropping, striking, outcome}

-- ---- transactions

pub transaction-snoc : (d : ℕ) (t past : List Entry) (e : Entry)
    → transaction_from d t (past ++ e ∷ []) ≡ noted d (transaction_from d t past) e
unfolding transaction_from
transaction-snoc d t [] e = refl
transaction-snoc d t (x ∷ past) e = transaction-snoc d (noted d t x) past e

-- ---- replaying entries

-- Run from b, the calls of the entries get the entries' answers, and end at b'.
abbrev pub Replays : Book → List Entry → Book → Type 0
Replays b es b' = Chain Steps b es b'

one : {b b₁ : Book} {c : Call} {a : Answer} → step c b ≡ reply a b₁ → Replays b ((c ⇒ a) ∷ []) b₁
one e = next e stop

append : {b b₁ b₂ : Book} {es fs : List Entry} → Replays b es b₁ → Replays b₁ fs b₂ → Replays b (es ++ fs) b₂
append stop q = q
append (next e p) q = next e (append p q)

pub replays-run : {b b₁ : Book} {es : List Entry} → Replays b es b₁ → run b (map call_of es) ≡ record { log = es; book = b₁ }
unfolding run
replays-run stop = refl
replays-run (next e p) = rw e (rw (replays-run p) refl)

-- ---- the invariant

-- Desk d has row r open. From any book with no desk open in which the row's set is the opened one, the entries of its
-- transaction lead to the same book with desk d as it now is.
pub record Underway (ps : List Place) (es : List Entry) (d r : ℕ) (opened worked : Positions) : Type 0 where
  pub is-desk : is_desk d ≡ true
  pub key : ℕ
  pub first : ℕ
  pub ticks : Positions
  pub has-row : get_or ps r free ≡ row key first ticks
  pub replay : (qs : List Place) → get_or qs r free ≡ row key first opened → Replays (idle qs) es (put_desk d (working r opened worked) (idle qs))

abbrev pub Kept : List Place → List Entry → ℕ → Desk → Type 0
Kept ps es d closed = Unit {0}
Kept ps es d (working r opened worked) = Underway ps es d r opened worked

-- Each desk's transaction so far.
abbrev pub Transactions : Type 0
Transactions = ℕ → List Entry

abbrev pub Inv : Book → Transactions → Type 0
Inv b v = (d : ℕ) → Kept b.places (v d) d (desk b d)

-- Desk d is put, and no transaction but its own has changed.
inv-desk : (b : Book) (d : ℕ) (x : Desk) (v w : Transactions) → ((e : ℕ) → e ≢ d → w e ≡ v e) → Kept b.places (w d) d x
    → Inv b v → Inv (put_desk d x b) w
inv-desk b d x v w others k h = put_all closed (λ e. Kept b.places (w e) e) b.desks d x tt k (λ e n. rw (others e n) (h e))

-- ---- the places change, and no row that a desk has open its key or first number

abbrev pub KeepsOpen : Book → List Place → Type 0
KeepsOpen b qs =
    (d r : ℕ) (opened worked : Positions) → desk b d ≡ working r opened worked
    → (key first : ℕ) (s : Positions) → place b r ≡ row key first s → (t : Positions) × (get_or qs r free ≡ row key first t)

inv-places : (b : Book) (v : Transactions) (qs : List Place) → KeepsOpen b qs → Inv b v → Inv (record { places = qs; desks = b.desks }) v
inv-places b v qs k h d = at (desk b d) refl (h d)
  where
    at : (x : Desk) → desk b d ≡ x → Kept b.places (v d) d x → Kept qs (v d) d x
    at closed e g = tt
    at (working r opened worked) e g =
        let t = k d r opened worked e g.key g.first g.ticks g.has-row in
        record { is-desk = g.is-desk; key = g.key; first = g.first; ticks = t.0; has-row = t.1; replay = g.replay }

-- No desk has place r open.
abbrev pub NotOpen : Book → ℕ → Type 0
NotOpen b r = (d r' : ℕ) (opened worked : Positions) → desk b d ≡ working r' opened worked → r' ≢ r

pub keeps-other : (b : Book) (r : ℕ) (p : Place) → NotOpen b r → KeepsOpen b (set b.places r p)
keeps-other b r p n d r' opened worked e key first s h = (s, rw (get_or-set_other b.places r r' p free (n d r' opened worked e)) h)

pub keeps-saved : (b : Book) (r : ℕ) (w : Positions) → KeepsOpen b (set b.places r (with_ticks w (place b r)))
keeps-saved b r w d r' opened worked e key first s h = at (ℕ_discrete r' r)
  where
    at : Dec (r' ≡ r) → (t : Positions) × (get_or (set b.places r (with_ticks w (place b r))) r' free ≡ row key first t)
    at (yes q) = let h' = rw q at h in (w, rw (q, h') (get_or-set_same b.places r (row key first w) free (row_in b.places r h')))
    at (no n) = (s, rw (get_or-set_other b.places r r' _ free n) h)

-- ---- what one call does

-- The transactions in a log, and after one more entry.
abbrev pub in_log : List Entry → Transactions
in_log past d = transaction d past

abbrev pub and_then : List Entry → Entry → Transactions
and_then past e d = noted d (transaction d past) e

pub record Good (b : Book) (past : List Entry) (c : Call) (s : Reply) : Type 0 where
  pub replays : Replays (idle b.places) (kept past (c ⇒ s.answer)) (idle s.book.places)
  pub inv : Inv s.book (and_then past (c ⇒ s.answer))

module _ (b : Book) (past : List Entry) (h : Inv b (in_log past)) where
  -- Of a refused call other than a tick or an untick nothing is kept.
  refusal-good : (c : Call) (number : ℕ) → is_mark c ≡ false → Good b past c (reply (refused number) b)
  unfolding kept noted
  refusal-good (Enrol key first) number m = record { replays = stop; inv = h }
  refusal-good (Ask q) number m = record { replays = stop; inv = h }
  refusal-good (Open d r) number m = record { replays = stop; inv = h }
  refusal-good (Mark flag d n) number m = absurd (false≢true (sym m))
  refusal-good (Save d) number m = record { replays = stop; inv = h }
  refusal-good (Drop d) number m = record { replays = stop; inv = h }
  refusal-good (Strike r) number m = record { replays = stop; inv = h }

  open-good : (d r key first : ℕ) (s : Positions) → is_desk d ≡ true → place b r ≡ row key first s
      → Good b past (Open d r) (reply done (put_desk d (working r s s) b))
  unfolding kept noted
  open-good d r key first s t e =
      record {
        replays = stop;
        inv = inv-desk b d _ (in_log past) _ (λ d' n. rw (ne_eqb d d' (λ q. n (sym q)))) (rw (eq-eqb d d refl) underway) h;
      }
    where
      underway : Underway b.places ((Open d r ⇒ done) ∷ []) d r s s
      underway =
          record {
            is-desk = t;
            key = key;
            first = first;
            ticks = s;
            has-row = e;
            replay = λ qs q. one (open_step (idle qs) d t r key first s q (idle-desk 8 d));
          }

  -- A tick or an untick, with its answer and the desk after it.
  mark-good : (flag : Bool) (d n : ℕ) (a : Answer) (x : Desk) → Kept b.places (transaction d past ++ (Mark flag d n ⇒ a) ∷ []) d x
      → Good b past (Mark flag d n) (reply a (put_desk d x b))
  unfolding kept noted
  mark-good flag d n a x k =
      record {
        replays = stop;
        inv = inv-desk b d x (in_log past) _ (λ d' m. rw (ne_eqb d d' (λ q. m (sym q)))) (rw (eq-eqb d d refl) k) h;
      }

  refused-mark : (flag : Bool) (d n number : ℕ) → Kept b.places (transaction d past ++ (Mark flag d n ⇒ refused number) ∷ []) d (desk b d)
      → Good b past (Mark flag d n) (reply (refused number) b)
  refused-mark flag d n number k = rw (set-get_or b.desks d closed) at (mark-good flag d n (refused number) (desk b d) k)

  -- The transaction of a desk with a row open.
  pub underway : (d r : ℕ) (opened worked : Positions) → desk b d ≡ working r opened worked
      → Underway b.places (transaction d past) d r opened worked
  underway d r opened worked e = rw e at (h d)

  -- A free place is no desk's.
  pub free-not-open : (r : ℕ) → place b r ≡ free → NotOpen b r
  free-not-open r f d r' opened worked e =
      let k = underway d r' opened worked e in row-not-free b.places r' r k.key k.first k.ticks k.has-row f

  unopened-good : (flag : Bool) (d n number : ℕ) → (is_desk d ≡ true → desk b d ≡ closed) → Good b past (Mark flag d n) (reply (refused number) b)
  unopened-good flag d n number f = refused-mark flag d n number (none (desk b d) (h d) f)
    where
      none : (x : Desk) → Kept b.places (transaction d past) d x → (is_desk d ≡ true → x ≡ closed)
          → Kept b.places (transaction d past ++ (Mark flag d n ⇒ refused number) ∷ []) d x
      none closed k f = tt
      none (working r opened worked) k f = subst⁻¹ (Kept b.places _ d) (f k.is-desk) tt

  -- The row's key and first number decide what a tick or an untick does to the worked set, and the row's set does not:
  -- so the transaction goes on by this call with the same answer a, and the worked set becomes w.
  goes_on_lem : (flag : Bool) (d n r : ℕ) (opened worked : Positions) (a : Answer) (w : Positions) (i : ℕ)
      → Underway b.places (transaction d past) d r opened worked → position_at (place b r) n ≡ i
      → ((qs : List Place) → position_at (get_or qs r free) n ≡ i
      → step (Mark flag d n) (put_desk d (working r opened worked) (idle qs)) ≡ reply a (put_desk d (working r opened w) (idle qs)))
      → Underway b.places (transaction d past ++ (Mark flag d n ⇒ a) ∷ []) d r opened w
  goes_on_lem flag d n r opened worked a w i k p f =
      record {
        is-desk = k.is-desk;
        key = k.key;
        first = k.first;
        ticks = k.ticks;
        has-row = k.has-row;
        replay = λ qs q. append (k.replay qs q) (one (f qs (ap (λ x. position_at x n) q ∙ sym (ap (λ x. position_at x n) k.has-row) ∙ p)));
      }

  -- The mark's step in the replayed transaction.
  replayed : (flag : Bool) (d n r : ℕ) (opened worked : Positions) (i : ℕ) → is_desk d ≡ true → (qs : List Place)
      → position_at (get_or qs r free) n ≡ i
      → let x = put_desk d (working r opened worked) (idle qs) in
      step (Mark flag d n) x
      ≡ cond (eqb (mark_verdict flag i worked) 0)
      (reply done (put_desk d (working r opened (set worked i flag)) x))
      (reply (refused (mark_verdict flag i worked)) x)
  replayed flag d n r opened worked i t qs q =
      mark-step (put_desk d (working r opened worked) (idle qs)) d t flag n r opened worked (at-desk d _ t) i q

  save-good : (d r : ℕ) (opened worked : Positions) → Underway b.places (transaction d past) d r opened worked
      → same (ticks_of (place b r)) opened ≡ true
      → Good b past (Save d) (reply done (put_desk d closed (put_place r (with_ticks worked (place b r)) b)))
  unfolding kept noted
  save-good d r opened worked k t =
      record {
        replays = append (k.replay b.places fits)
            (one (save-step (put_desk d (working r opened worked) (idle b.places)) d k.is-desk r opened worked (at-desk d _ k.is-desk)
            ∙ rw (t, set-set, idle-close)));
        inv = inv-desk stored d closed (in_log past) _ (λ e n. refl) tt (inv-places b (in_log past) stored.places (keeps-saved b r worked) h);
      }
    where
      stored : Book
      stored = put_place r (with_ticks worked (place b r)) b

      fits : place b r ≡ row k.key k.first opened
      fits = k.has-row ∙ ap (row k.key k.first) (sym (ap ticks_of k.has-row) ∙ same_true _ _ t)

  pub good : {c : Call} {s : Reply} → Outcome b c s → Good b past c s
  unfolding step refusals judge effect any_has_open kept noted
  good (refusal {c = c} number m) = refusal-good c number m
  good (enrolment a) =
      record {
        replays = one (rw (a.is-valid, a.is-number, a.is-new, a.not_full));
        inv = inv-places b (in_log past) _ (keeps-other b _ _ (free-not-open _ a.is-lowest.is_free_lem)) h;
      }
  good (asking words) = record { replays = stop; inv = h }
  good (opening key first s t e x) = open-good _ _ key first s t e
  good (unopened number f) = unopened-good _ _ _ number f
  good (unmarked {flag = flag} {d = d} {n = n} r opened worked i number e p q z) =
      refused-mark flag d n number
      (rw e.1
      (goes_on_lem flag d n r opened worked (refused number) worked i (underway d r opened worked e.1) p
      (λ qs u. replayed flag d n r opened worked i e.0 qs u ∙ rw (q, z))))
  good (marking {flag = flag} {d = d} {n = n} r opened worked i e p q) =
      mark-good flag d n done _
      (goes_on_lem flag d n r opened worked done _ i (underway d r opened worked e.1) p
      (λ qs u. replayed flag d n r opened worked i e.0 qs u ∙ rw (q, set-set)))
  good (saving r opened worked e t) = save-good _ r opened worked (underway _ r opened worked e.1) t
  good (stale {d = d} r opened worked e t) = record { replays = stop; inv = inv-desk b d closed (in_log past) _ (λ e n. refl) tt h }
  good (dropping {d = d} t x) = record { replays = stop; inv = inv-desk b d closed (in_log past) _ (λ e n. refl) tt h }
  good (striking {r = r} f n) =
      record {
        replays = one (rw f);
        inv = inv-places b (in_log past) _ (keeps-other b r free (λ d q opened worked. not-open b.desks r d q opened worked n)) h;
      }

-- ---- the whole list

serial-replays : (calls : List Call) (b : Book) (past : List Entry) → Inv b (in_log past)
    → Replays (idle b.places) (serial_from past (run b calls).log) (idle (run b calls).book.places)
unfolding run serial_from
serial-replays [] b past h = stop
serial-replays (c ∷ calls) b past h =
    let g = good b past h (outcome c b) in
    append g.replays (serial-replays calls _ _ (λ d. rw (transaction-snoc d [] past) (g.inv d)))

pub fresh-inv : Inv fresh (in_log [])
fresh-inv d = rw (idle-desk 8 d) tt

-- The calls of the serial history, run on a fresh book, get the answers that they had in the log, and end with its places and no
-- desk open.
pub serial-run : (calls : List Call)
    → let t = serial (run fresh calls).log in
    run fresh (map call_of t) ≡ record { log = t; book = idle (run fresh calls).book.places }
serial-run calls = replays-run (serial-replays calls fresh [] fresh-inv)
