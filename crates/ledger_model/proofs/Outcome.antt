-- The possible outcomes of a call, and what is known in each case. Proofs about every step use these cases. Assumes nothing.
use Rattle.std.proofs.Common.{◌≡◌, ℕ, Bool, true, false, cond, not, eqb, List, set, sym, refl, ◌∙◌, eqb-true}
use mathlib.Core.Bool.{false≢true}
use borrow.Author.Tests.{not-false}
use Rattle.laws.proofs.Bools.{by-test, by_bool}
use Rattle.refusals.specs.Judge.{judge, verdict}
use Rattle.keys.specs.Key.{valid_key}
use Rattle.keys.specs.Numbers.{is_number}
use Rattle.ledger_model.specs.Positions.{Positions, no_ticks, same}
use Rattle.ledger_model.specs.Book.{free, row, Desk, closed, working, Book, place, desk, put_place, put_desk}
use Rattle.ledger_model.specs.Book.{is_free, ticks_of, with_ticks, is_desk, is_open, has_key, all_used, lowest_free, any_has_open, position_at}
use Rattle.ledger_model.specs.Step.{Question, Call, Enrol, Ask, Open, Mark, Save, Drop, Strike, gave}
use Rattle.ledger_model.specs.Step.{done, at_row, refused, Reply, reply, refusals, effect, after_refusal, reply_given, step}
use Rattle.ledger_model.proofs.Basics.{Lowest, lowest, HasRow, has-row}
use Rattle.ledger_model.proofs.Steps.{mark_verdict, mark-step, save-step, mark-closed, save-closed, mark-no-desk, save-no-desk}

abbrev pub is_mark : Call → Bool
is_mark (Enrol key first) = false
is_mark (Ask q) = false
is_mark (Open d r) = false
is_mark (Mark flag d n) = true
is_mark (Save d) = false
is_mark (Drop d) = false
is_mark (Strike r) = false

-- An accepted enrolment: the key is valid and new, the first number one of the stream, and the place the lowest free one.
pub record Admitted (key first : ℕ) (b : Book) : Type 0 where
  pub is-valid : valid_key key ≡ true
  pub is-number : is_number key first ≡ true
  pub is-new : has_key key b.places ≡ false
  pub not_full : all_used b.places ≡ false
  pub is-lowest : Lowest b.places (lowest_free b.places)

-- Desk d has place r open.
abbrev pub Has : Book → (d r : ℕ) (opened worked : Positions) → Type 0
Has b d r opened worked = (is_desk d ≡ true) × (desk b d ≡ working r opened worked)

pub data Outcome (b : Book) : Call → Reply → Type 0 where
  -- A refused call that is no mark, and no stale save.
  refusal : {c : Call} (number : ℕ) → is_mark c ≡ false → Outcome b c (reply (refused number) b)
  enrolment : {key first : ℕ} → Admitted key first b
      → Outcome b (Enrol key first) (reply (at_row (lowest_free b.places)) (put_place (lowest_free b.places) (row key first no_ticks) b))
  asking : {q : Question} (words : List ℕ) → Outcome b (Ask q) (reply (gave words) b)
  opening : {d r : ℕ} (key first : ℕ) (s : Positions) → is_desk d ≡ true → place b r ≡ row key first s → desk b d ≡ closed
      → Outcome b (Open d r) (reply done (put_desk d (working r s s) b))
  -- A mark by a desk with no row open,
  unopened : {flag : Bool} {d n : ℕ} (number : ℕ) → (is_desk d ≡ true → desk b d ≡ closed)
      → Outcome b (Mark flag d n) (reply (refused number) b)
  -- one that is refused for the number or the worked set,
  unmarked : {flag : Bool} {d n : ℕ} (r : ℕ) (opened worked : Positions) (i number : ℕ) → Has b d r opened worked
      → position_at (place b r) n ≡ i → mark_verdict flag i worked ≡ number → eqb number 0 ≡ false
      → Outcome b (Mark flag d n) (reply (refused number) b)
  -- and one that is accepted.
  marking : {flag : Bool} {d n : ℕ} (r : ℕ) (opened worked : Positions) (i : ℕ) → Has b d r opened worked
      → position_at (place b r) n ≡ i → mark_verdict flag i worked ≡ 0
      → Outcome b (Mark flag d n) (reply done (put_desk d (working r opened (set worked i flag)) b))
  saving : {d : ℕ} (r : ℕ) (opened worked : Positions) → Has b d r opened worked → same (ticks_of (place b r)) opened ≡ true
      → Outcome b (Save d) (reply done (put_desk d closed (put_place r (with_ticks worked (place b r)) b)))
  stale : {d : ℕ} (r : ℕ) (opened worked : Positions) → Has b d r opened worked → same (ticks_of (place b r)) opened ≡ false
      → Outcome b (Save d) (reply (refused 31) (put_desk d closed b))
  dropping : {d : ℕ} → is_desk d ≡ true → is_open (desk b d) ≡ true → Outcome b (Drop d) (reply done (put_desk d closed b))
  striking : {r : ℕ} → is_free (place b r) ≡ false → any_has_open r b.desks ≡ false → Outcome b (Strike r) (reply done (put_place r free b))

-- A desk is closed, or has a row open.
by-desk {κ} : {P : Type κ} (x : Desk) → (x ≡ closed → P) → ((r : ℕ) (opened worked : Positions) → x ≡ working r opened worked → P) → P
by-desk closed f g = f refl
by-desk (working r opened worked) f g = g r opened worked refl

pub desk-closed : (x : Desk) → is_open x ≡ false → x ≡ closed
desk-closed closed e = refl
desk-closed (working r opened worked) e = cc

pub outcome : (c : Call) (b : Book) → Outcome b c (step c b)
unfolding step refusals judge effect after_refusal
outcome (Enrol key first) b =
    by-test P (not (valid_key key)) (λ _. refusal 22 refl) λ v.
    by-test P (not (is_number key first)) (λ _. refusal 32 refl) λ n.
    by-test P (has_key key b.places) (λ _. refusal 23 refl) λ k.
    by-test P (all_used b.places) (λ _. refusal 24 refl) λ u.
    enrolment record { is-valid = not-false _ v; is-number = not-false _ n; is-new = k; not_full = u; is-lowest = lowest b.places u }
  where
    P : ℕ → Type 0
    P number = Outcome b (Enrol key first) (reply_given number (Enrol key first) b)
outcome (Ask q) b = by-test (Outcome b (Ask q)) (eqb (verdict (refusals (Ask q) b)) 0) (λ _. asking _) (λ _. refusal _ refl)
outcome (Open d r) b =
    by-test P (not (is_desk d)) (λ _. refusal 21 refl) λ t.
    by-test P (is_free (place b r)) (λ _. refusal 25 refl) λ f.
    by-test P (is_open (desk b d)) (λ _. refusal 26 refl) λ x.
    at (not-false _ t) (has-row (place b r) f) (desk-closed (desk b d) x)
  where
    P : ℕ → Type 0
    P number = Outcome b (Open d r) (reply_given number (Open d r) b)

    at : is_desk d ≡ true → HasRow (place b r) → desk b d ≡ closed → P 0
    at t h x = rw h.is (opening h.key h.first h.ticks t h.is x)
outcome (Mark flag d n) b =
    by_bool (is_desk d)
    (λ t. by-desk (desk b d)
    (λ x. rw (mark-closed b d t flag n x) (unopened 27 (λ _. x)))
    (λ r opened worked x. rw (mark-step b d t flag n r opened worked x _ refl) (at r opened worked (t, x))))
    (λ t. rw (mark-no-desk b flag d n t) (unopened 21 (λ u. absurd (false≢true (sym t ∙ u)))))
  where
    at : (r : ℕ) (opened worked : Positions) → Has b d r opened worked
        → let i = position_at (place b r) n in
        Outcome b (Mark flag d n)
        (cond (eqb (mark_verdict flag i worked) 0)
        (reply done (put_desk d (working r opened (set worked i flag)) b))
        (reply (refused (mark_verdict flag i worked)) b))
    at r opened worked h =
        by-test (Outcome b (Mark flag d n)) (eqb (mark_verdict flag (position_at (place b r) n) worked) 0)
        (λ e. marking r opened worked _ h refl (eqb-true _ 0 e))
        (λ e. unmarked r opened worked _ _ h refl refl e)
outcome (Save d) b =
    by_bool (is_desk d)
    (λ t. by-desk (desk b d)
    (λ x. rw (save-closed b d t x) (refusal 27 refl))
    (λ r opened worked x. rw (save-step b d t r opened worked x)
    (by-test (Outcome b (Save d)) (same (ticks_of (place b r)) opened) (saving r opened worked (t, x)) (stale r opened worked (t, x)))))
    (λ t. rw (save-no-desk b d t) (refusal 21 refl))
outcome (Drop d) b =
    by-test P (not (is_desk d)) (λ _. refusal 21 refl) λ t.
    by-test P (not (is_open (desk b d))) (λ _. refusal 27 refl) λ x.
    dropping (not-false _ t) (not-false _ x)
  where
    P : ℕ → Type 0
    P number = Outcome b (Drop d) (reply_given number (Drop d) b)
outcome (Strike r) b =
    by-test P (is_free (place b r)) (λ _. refusal 25 refl) λ f.
    by-test P (any_has_open r b.desks) (λ _. refusal 36 refl) λ o.
    striking f o
  where
    P : ℕ → Type 0
    P number = Outcome b (Strike r) (reply_given number (Strike r) b)
