-- A tick stays, for every list of calls. Assumes nothing.
use Rattle.std.proofs.Common.{◌≡◌, ℕ, zero, suc, ◌<◌, Bool, true, false, ◌||◌, eqb, ◌≢◌, List, [], ◌∷◌, ◌++◌, get_or, set, sym, refl, ap, ◌∙◌, true≢false}
use Rattle.std.proofs.Common.{append-nil, get_or-set_other, get_or-set_same, eq-eqb, ne_eqb}
use native.Mathlib.Decide.{ℕ_discrete}
use mathlib.Core.Option.{none, some}
use mathlib.Core.List.{Memᴰ}
use lib.Seq.{append_snoc}
use borrow.Author.Tests.{eqb-false}
use Rattle.laws.proofs.Bools.{by-test, or-neither}
use Rattle.ledger_model.specs.Positions.{row_length, position, Positions, has, same}
use Rattle.ledger_model.specs.Book.{Place, free, Desk, closed, working, Book, fresh, place, desk}
use Rattle.ledger_model.specs.Book.{is_free, ticks_of, with_ticks, position_at}
use Rattle.ledger_model.specs.Step.{Call, Enrol, Ask, Open, Mark, Save, Drop, Strike}
use Rattle.ledger_model.specs.Step.{done, refused, Reply, step, Entry, ◌⇒◌, run}
use Rattle.ledger_model.specs.History.{noted, transaction}
use Rattle.ledger_model.specs.Stale.{opened_by, last_opened}
use Rattle.ledger_model.specs.WellFormed.{WellFormed}
use Rattle.ledger_model.specs.Tally.{strikes}
use Rattle.ledger_model.specs.Missing.{missing_numbers}
use Rattle.ledger_model.specs.Kept.{TickedIn, unticks, unticked_in, takes_out, taken_out, TickStays, TickedNotMissing}
use Rattle.ledger_model.proofs.Basics.{same_true, row_in, row-not-free, has-row, not-open, put_all, idle-desk}
use Rattle.ledger_model.proofs.Outcome.{Outcome, refusal, enrolment, asking, opening, unopened, unmarked}
use Rattle.ledger_model.proofs.Outcome.{marking, saving, stale, dropping, striking, outcome}
use Rattle.ledger_model.proofs.WellFormed.{well-formed, fresh-well-formed, run-well-formed}
use Rattle.ledger_model.proofs.Replay.{KeepsOpen, keeps-other, keeps-saved, transaction-snoc}
use Rattle.ledger_model.proofs.Stale.{last_opened-append, refused-opens}
use Rattle.ledger_model.proofs.Laws.{changes}
use Rattle.ledger_model.proofs.Counts.{missing-unticked}
use Rattle.ledger_model.proofs.Tally.{last_snoc}
use Rattle.ledger_model.proofs.Missing.{has-below, positions-differ, exactly-missing}

-- ---- what a desk keeps

-- Desk d has row r open, which is the place p: it is the row of its last accepted open, and a number that was ticked then and that the
-- transaction does not untick is ticked in the worked set.
record Keeps (past : List Entry) (p : Place) (d r : ℕ) (opened worked : Positions) : Type 0 where
  row_is : last_opened d past ≡ some r
  keeps : (n : ℕ) → has opened (position_at p n) ≡ true → unticked_in n (transaction d past) ≡ false → has worked (position_at p n) ≡ true

abbrev Kept : List Entry → List Place → ℕ → Desk → Type 0
Kept past ps d closed = Unit {0}
Kept past ps d (working r opened worked) = Keeps past (get_or ps r free) d r opened worked

abbrev AllKept : List Entry → Book → Type 0
AllKept past b = (d : ℕ) → Kept past b.places d (desk b d)

-- ---- one more entry in a transaction

-- An entry that opens nothing at desk d and unticks nothing there.
abbrev Neutral : ℕ → Entry → Type 0
Neutral d e = (opened_by d e ≡ none) × ((n : ℕ) (t : List Entry) → unticked_in n (noted d t e) ≡ unticked_in n t)

or_assoc : (x y z : Bool) → (x || y) || z ≡ x || (y || z)
or_assoc true y z = refl
or_assoc false y z = refl

or-none : (x : Bool) → x || false ≡ x
or-none true = refl
or-none false = refl

unticked-snoc : (n : ℕ) (t : List Entry) (e : Entry) → unticked_in n (t ++ e ∷ []) ≡ unticked_in n t || unticks n e
unfolding unticked_in
unticked-snoc n [] e = or-none (unticks n e)
unticked-snoc n (x ∷ t) e = rw (unticked-snoc n t e) (sym (or_assoc (unticks n x) (unticked_in n t) (unticks n e)))

refused-unticks : (d : ℕ) (c : Call) (number n : ℕ) (t : List Entry) → unticked_in n (noted d t (c ⇒ refused number)) ≡ unticked_in n t
unfolding noted unticks
refused-unticks d (Enrol key first) number n t = refl
refused-unticks d (Ask q) number n t = refl
refused-unticks d (Open e r) number n t = refl
refused-unticks d (Mark flag e m) number n t =
    by-test (λ u. unticked_in n u ≡ unticked_in n t) (eqb e d)
    (λ _. unticked-snoc n t (Mark flag e m ⇒ refused number) ∙ or-none (unticked_in n t))
    (λ _. refl)
refused-unticks d (Save e) number n t = refl
refused-unticks d (Drop e) number n t = refl
refused-unticks d (Strike r) number n t = refl

refused-neutral : (d : ℕ) (c : Call) (number : ℕ) → Neutral d (c ⇒ refused number)
refused-neutral d c number = (refused-opens d c number, refused-unticks d c number)

grown : (past : List Entry) (e : Entry) (ps : List Place) (d : ℕ) (x : Desk) → Neutral d e → Kept past ps d x → Kept (past ++ e ∷ []) ps d x
grown past e ps d closed u k = tt
grown past e ps d (working r opened worked) u k =
    record {
      row_is = last_snoc past e d r u.0 k.row_is;
      keeps = λ n h t. k.keeps n h (sym (u.1 n (transaction d past)) ∙ (rw (transaction-snoc d [] past e) at t));
    }

-- ---- a mark of the worked set

-- A tick takes nothing out of a set, an untick no other position.
pub tick-keeps : (s : Positions) (i j : ℕ) → has s j ≡ true → has (set s i true) j ≡ true
tick-keeps [] i j e = e
tick-keeps (x ∷ s) zero zero e = refl
tick-keeps (x ∷ s) zero (suc j) e = e
tick-keeps (x ∷ s) (suc i) zero e = e
tick-keeps (x ∷ s) (suc i) (suc j) e = tick-keeps s i j e

module _ (past : List Entry) (b : Book) (w : WellFormed b) (k : AllKept past b) where
  kept-desks : (e : Entry) → ((d : ℕ) → Neutral d e) → (d : ℕ) → Kept (past ++ e ∷ []) b.places d (desk b d)
  kept-desks e u d = grown past e b.places d (desk b d) (u d) (k d)

  put-desk : (e : Entry) (d : ℕ) (x : Desk) → ((d' : ℕ) → d' ≢ d → Neutral d' e) → Kept (past ++ e ∷ []) b.places d x
      → (d' : ℕ) → Kept (past ++ e ∷ []) b.places d' (get_or (set b.desks d x) d' closed)
  put-desk e d x u kept =
      put_all closed (Kept (past ++ e ∷ []) b.places) b.desks d x tt kept
      (λ d' n. grown past e b.places d' (desk b d') (u d' n) (k d'))

  -- The places change, and no row that a desk has open its key or first number.
  kept-places : (log : List Entry) (qs : List Place) → KeepsOpen b qs → (d : ℕ) → Kept log b.places d (desk b d) → Kept log qs d (desk b d)
  kept-places log qs keep d = at (desk b d) refl
    where
      at : (x : Desk) → desk b d ≡ x → Kept log b.places d x → Kept log qs d x
      at closed e g = tt
      at (working r opened worked) e g =
          let h = has-row (place b r) (rw e at (w.desk_ok d)).0 in
          let t = keep d r opened worked e h.key h.first h.ticks h.is in
          let alike : (n : ℕ) → position_at (get_or qs r free) n ≡ position_at (place b r) n =
          λ n. ap (λ p. position_at p n) t.1 ∙ sym (ap (λ p. position_at p n) h.is) in
          record { row_is = g.row_is; keeps = λ n o u. rw (alike n) (g.keeps n (rw (alike n) at o) u) }

  -- A free place is open at no desk.
  free-idle : (r : ℕ) → place b r ≡ free → (d q : ℕ) (opened worked : Positions) → desk b d ≡ working q opened worked → q ≢ r
  free-idle r f d q opened worked x e =
      let used = (rw x at (w.desk_ok d)).0 in
      true≢false (sym (ap is_free f) ∙ sym (ap (λ p. is_free (place b p)) e) ∙ used)

  marked-desk : (flag : Bool) (d m r : ℕ) (opened worked : Positions) (i : ℕ) → desk b d ≡ working r opened worked
      → position_at (place b r) m ≡ i → i < row_length → Keeps past (place b r) d r opened worked
      → Keeps (past ++ (Mark flag d m ⇒ done) ∷ []) (place b r) d r opened (set worked i flag)
  unfolding noted opened_by unticks
  marked-desk flag d m r opened worked i x p l g =
      record { row_is = last_snoc past _ d r refl g.row_is; keeps = λ n o u. at flag n o (split n u) }
    where
      e : Bool → Entry
      e f = Mark f d m ⇒ done

      split : (n : ℕ) → unticked_in n (transaction d (past ++ (Mark flag d m ⇒ done) ∷ [])) ≡ false
          → (unticked_in n (transaction d past) ≡ false) × (unticks n (Mark flag d m ⇒ done) ≡ false)
      split n u =
          or-neither _ _
          (sym (unticked-snoc n (transaction d past) (Mark flag d m ⇒ done))
          ∙ (rw (transaction-snoc d [] past (Mark flag d m ⇒ done), eq-eqb d d refl) at u))

      other : (n : ℕ) → has opened (position_at (place b r) n) ≡ true → eqb m n ≡ false → position_at (place b r) n ≢ i
      other n o z q =
          let desk_ok = rw x at (w.desk_ok d) in
          let h = has-row (place b r) desk_ok.0 in
          let ok = rw h.is at (w.place_ok r) in
          let below : position_at (place b r) n < row_length = rw desk_ok.1 at (has-below opened _ o) in
          let same_place : position h.key h.first m ≡ position h.key h.first n = rw h.is at (p ∙ sym q) in
          eqb-false m n z (positions-differ h.key h.first m n ok.1 (rw h.is at below) same_place)

      at : (f : Bool) (n : ℕ) → has opened (position_at (place b r) n) ≡ true
          → (unticked_in n (transaction d past) ≡ false) × (unticks n (Mark f d m ⇒ done) ≡ false)
          → has (set worked i f) (position_at (place b r) n) ≡ true
      at true n o u = tick-keeps worked i _ (g.keeps n o u.0)
      at false n o u = get_or-set_other worked i _ false false (other n o u.1) ∙ g.keeps n o u.0

  all-kept : {c : Call} {s : Reply} → Outcome b c s → AllKept (past ++ (c ⇒ s.answer) ∷ []) s.book
  unfolding noted opened_by last_opened unticked_in unticks
  all-kept (refusal {c = c} number m) = kept-desks _ (λ d. refused-neutral d c number)
  all-kept (enrolment a) =
      λ d. kept-places _ _ (keeps-other b _ _ (free-idle _ a.is-lowest.is_free_lem)) d (kept-desks _ (λ d'. (refl, λ n t. refl)) d)
  all-kept (asking words) = kept-desks _ (λ d. (refl, λ n t. refl))
  all-kept (opening {d = d} {r = r} key first t u e x) =
      put-desk _ d _ (λ d' n. let o = ne_eqb d d' (λ q. n (sym q)) in (rw o, λ m v. rw o))
      record { row_is = last_opened-append d past _ ∙ rw (eq-eqb d d refl); keeps = λ n h v. h }
  all-kept (unopened {flag = f} {d = d} {n = n} number e) = kept-desks _ (λ d'. refused-neutral d' (Mark f d n) number)
  all-kept (unmarked {flag = f} {d = d} {n = n} r opened worked i number h p q z) = kept-desks _ (λ d'. refused-neutral d' (Mark f d n) number)
  all-kept (marking {flag = flag} {d = d} {n = n} r opened worked i h p q) =
      put-desk _ d _ (λ d' m. let o = ne_eqb d d' (λ q'. m (sym q')) in (refl, λ f v. rw o))
      (marked-desk flag d n r opened worked i h.1 p (changes flag i worked q).in-row (rw h.1 at (k d)))
  all-kept (saving {d = d} r opened worked h t) =
      put_all closed (Kept _ _) b.desks d closed tt tt
      (λ d' n. kept-places _ _ (keeps-saved b r worked) d' (kept-desks _ (λ d''. (refl, λ m v. refl)) d'))
  all-kept (stale {d = d} r opened worked h t) = put-desk _ d closed (λ d' n. refused-neutral d' (Save d) 31) tt
  all-kept (dropping {d = d} t x) = put-desk _ d closed (λ d' n. (refl, λ m v. refl)) tt
  all-kept (striking {r = r} f n) =
      λ d. kept-places _ _ (keeps-other b r free (λ d' q opened worked. not-open b.desks r d' q opened worked n)) d
      (kept-desks _ (λ d'. (refl, λ m t. refl)) d)

  -- ---- what a call does to a ticked number

  module _ (r key first n : ℕ) (ticked : TickedIn b r key first n) where
    -- The places are as they were, or place r is.
    as-was : (c : Book) → place c r ≡ place b r → TickedIn c r key first n
    as-was c e = record { ticks = ticked.ticks; is-row = e ∙ ticked.is-row; is-ticked = ticked.is-ticked }

    saved : (d : ℕ) (opened worked : Positions) → desk b d ≡ working r opened worked → same (ticks_of (place b r)) opened ≡ true
        → unticked_in n (transaction d past) ≡ false
        → (desks : List Desk) → TickedIn (record { places = set b.places r (with_ticks worked (place b r)); desks = desks }) r key first n
    saved d opened worked x t u desks =
        let g : Keeps past (place b r) d r opened worked = rw x at (k d) in
        let row_is = ticked.is-row in
        let was : has opened (position_at (place b r) n) ≡ true =
        rw (← same_true _ _ t, row_is) ticked.is-ticked in
        record {
          ticks = worked;
          is-row = get_or-set_same b.places r _ free (row_in b.places r row_is) ∙ rw row_is refl;
          is-ticked = rw row_is at (g.keeps n was u);
        }

    stays : {c : Call} {s : Reply} → Outcome b c s → takes_out r n past (c ⇒ s.answer) ≡ false → TickedIn s.book r key first n
    unfolding takes_out strikes
    stays (refusal number m) z = as-was _ refl
    stays (enrolment a) z =
        as-was _ (get_or-set_other b.places _ r _ free (row-not-free b.places r _ key first ticked.ticks ticked.is-row a.is-lowest.is_free_lem))
    stays (asking words) z = as-was _ refl
    stays (opening key' first' t u e x) z = as-was _ refl
    stays (unopened number e) z = as-was _ refl
    stays (unmarked q opened worked i number h p v y) z = as-was _ refl
    stays (marking q opened worked i h p v) z = as-was _ refl
    stays (saving {d = d} q opened worked h t) z = at (ℕ_discrete q r)
      where
        at : Dec (q ≡ r)
            → TickedIn (record { places = set b.places q (with_ticks worked (place b q)); desks = set b.desks d closed }) r key first n
        at (yes e) =
            let x = rw e at h.1 in
            let was = (rw x at (k d)).row_is in
            rw e (saved d opened worked x (rw e at t) (rw (was, eq-eqb r r refl) at z) _)
        at (no m) = as-was _ (get_or-set_other b.places q r _ free (λ e. m (sym e)))
    stays (stale q opened worked h t) z = as-was _ refl
    stays (dropping t x) z = as-was _ refl
    stays (striking {r = q} f m) z = as-was _ (get_or-set_other b.places q r free free (λ e. eqb-false q r z (sym e)))

-- ---- the whole list

all-kept-run : (calls : List Call) (past : List Entry) (b : Book) → WellFormed b → AllKept past b → AllKept (past ++ (run b calls).log) (run b calls).book
unfolding run
all-kept-run [] past b w k = rw append-nil k
all-kept-run (c ∷ calls) past b w k =
    rw (← append_snoc past (c ⇒ (step c b).answer) (run (step c b).book calls).log)
    (all-kept-run calls _ _ (well-formed b w (outcome c b)) (all-kept past b w k (outcome c b)))

stays-run : (calls : List Call) (past : List Entry) (b : Book) → WellFormed b → AllKept past b → (r key first n : ℕ) → TickedIn b r key first n
    → taken_out r n past (run b calls).log ≡ false → TickedIn (run b calls).book r key first n
unfolding run taken_out
stays-run [] past b w k r key first n t z = t
stays-run (c ∷ calls) past b w k r key first n t z =
    let o = outcome c b in
    let q = or-neither _ _ z in
    stays-run calls _ _ (well-formed b w o) (all-kept past b w k o) r key first n (stays past b w k r key first n t o q.0) q.1

pub tick-stays : TickStays
tick-stays calls more r key first n =
    stays-run more (run fresh calls).log (run fresh calls).book (run-well-formed calls)
    (all-kept-run calls [] fresh fresh-well-formed (λ d. rw (idle-desk 8 d) tt)) r key first n

-- ---- not on the missing list

pub not-missing : (b : Book) → WellFormed b → (r key first n : ℕ) → TickedIn b r key first n → Memᴰ n (missing_numbers (place b r)) → ⊥
not-missing b w r key first n t m =
    let ok = rw t.is-row at (w.place_ok r) in
    let gap = (exactly-missing key first t.ticks ok n).0 (rw t.is-row at m) in
    true≢false (sym t.is-ticked ∙ missing-unticked t.ticks _ gap)

pub ticked-not-missing : TickedNotMissing
ticked-not-missing calls = not-missing (run fresh calls).book (run-well-formed calls)
