-- Laws of the model that other crates need: an enrolment's refusals, find, reports, strikes, the used places, how a tick or untick changes the count,
-- and answers as numbers. Assumes nothing.
use Rattle.std.proofs.Common.{◌≡◌, ℕ, zero, suc, ◌+◌, ◌<◌, ◌≤◌, Bool, true, false, cond, not, ◌||◌, eqb, ◌≢◌, List, [], ◌∷◌, ◌++◌, length, get_or, set, refl}
use Rattle.std.proofs.Common.{ap, true≢false, suc-le-suc, zero-le, zero-lt-suc, arith, get_or-set_other, get_or-set_same, ltb-true, eqb-true}
use mathlib.Core.Bool.{beq, false≢true}
use mathlib.Core.Option.{some}
use borrow.Author.Tests.{eqb-false, not-false}
use Rattle.laws.proofs.Bools.{by-test}
use Rattle.refusals.specs.Judge.{verdict, judge}
use Rattle.keys.specs.Key.{valid_key}
use Rattle.keys.specs.Numbers.{is_number}
use Rattle.ledger_model.specs.Positions.{row_length, Positions, has, same, size, missing, in_row}
use Rattle.ledger_model.specs.Book.{Place, free, row, closed, working, Book, place, desk}
use Rattle.ledger_model.specs.Book.{is_free, ticks_of, with_ticks, worked_of, has_key, place_with, lowest_free}
use Rattle.ledger_model.specs.Step.{Find, RowReport, FirstGap, Call, Enrol, Ask, Open, Mark, Save, Drop, Strike, Answer}
use Rattle.ledger_model.specs.Step.{gave, done, at_row, refused, answer_words, Reply, already_so, refusals, asked, effect, step, run}
use Rattle.ledger_model.specs.Counts.{place_report}
use Rattle.ledger_model.specs.WellFormed.{WellFormed, PlaceOk, IsSet, key_of}
use Rattle.ledger_model.proofs.Basics.{row_in, has-open, HasRow, has-row, put_back}
use Rattle.ledger_model.proofs.Steps.{mark_verdict, save-step}
use Rattle.ledger_model.proofs.Outcome.{Has, Outcome, refusal, unopened, unmarked, marking, striking, outcome}
use Rattle.ledger_model.proofs.Counts.{size-missing, size-tick, size-untick, Gap, first-gap}

-- ---- an enrolment

-- 22 is judged first, then 32, whatever the book.
module _ (b : Book) (key first : ℕ) where
  pub enrol-bad-key : valid_key key ≡ false → (step (Enrol key first) b).answer ≡ refused 22
  unfolding step refusals judge
  enrol-bad-key v = rw v

  pub enrol-bad-first : valid_key key ≡ true → is_number key first ≡ false → (step (Enrol key first) b).answer ≡ refused 32
  unfolding step refusals judge
  enrol-bad-first v n = rw (v, n)

-- ---- find

pub record Found (key : ℕ) (ps : List Place) (r : ℕ) : Type 0 where
  pub in_list : r < length ps
  pub has-key : key_of (get_or ps r free) ≡ some key

-- An accepted find answers a place with the key. (In a well-formed book there is one such place.)
pub found : (key : ℕ) (ps : List Place) → has_key key ps ≡ true → Found key ps (place_with key ps)
unfolding has_key place_with
found key [] e = absurd (false≢true e)
found key (free ∷ ps) e = let k = found key ps e in record { in_list = suc-le-suc k.in_list; has-key = k.has-key }
found key (row k first ticks ∷ ps) e = at (eqb k key) refl e (found key ps)
  where
    at : (t : Bool) → eqb k key ≡ t → (t || has_key key ps) ≡ true → (has_key key ps ≡ true → Found key ps (place_with key ps))
        → Found key (row k first ticks ∷ ps) (cond t zero (suc (place_with key ps)))
    at true q h ih = record { in_list = zero-lt-suc _; has-key = ap some (eqb-true k key q) }
    at false q h ih = let l = ih h in record { in_list = suc-le-suc l.in_list; has-key = l.has-key }

-- ---- questions and strikes

pub find-answers : (b : Book) (key : ℕ) → valid_key key ≡ true → has_key key b.places ≡ true
    → (r : ℕ) × ((step (Ask (Find key)) b).answer ≡ at_row r) × Found key b.places r
unfolding step refusals judge effect asked
find-answers b key v h = (place_with key b.places, rw (v, h), found key b.places h)

pub gap-answers : (b : Book) → (words : List ℕ) × ((step (Ask FirstGap) b).answer ≡ gave words) × Gap 0 b.places words
unfolding step refusals judge effect asked
gap-answers b = (_, refl, first-gap 0 b.places)

module _ (b : Book) (r : ℕ) where
  pub report-free : is_free (place b r) ≡ true → (step (Ask (RowReport r)) b).answer ≡ refused 25
  unfolding step refusals judge
  report-free f = rw f

  pub report-row : is_free (place b r) ≡ false → (step (Ask (RowReport r)) b).answer ≡ gave (place_report (place b r))
  unfolding step refusals judge effect asked
  report-row f = rw f

  pub strike-free : is_free (place b r) ≡ true → (step (Strike r) b).answer ≡ refused 25
  unfolding step refusals judge
  strike-free f = rw f

  -- A row that a desk has open is not struck,
  pub strike-open : WellFormed b → (d : ℕ) (opened worked : Positions) → desk b d ≡ working r opened worked → (step (Strike r) b).answer ≡ refused 36
  unfolding step refusals judge
  strike-open w d opened worked x = let k = rw x at (w.desk_ok d) in rw (k.0, has-open b.desks d r opened worked x)

  -- and an accepted strike frees the place, and changes no other and no desk.
  pub strike-frees : (step (Strike r) b).answer ≡ done
      → (place (step (Strike r) b).book r ≡ free)
      × ((q : ℕ) → q ≢ r → place (step (Strike r) b).book q ≡ place b q)
      × ((step (Strike r) b).book.desks ≡ b.desks)
  strike-frees = at (outcome (Strike r) b)
    where
      at : {s : Reply} → Outcome b (Strike r) s → s.answer ≡ done
          → (place s.book r ≡ free) × ((q : ℕ) → q ≢ r → place s.book q ≡ place b q) × (s.book.desks ≡ b.desks)
      at (refusal number m) a = absurd (false≢true cc)
      at (striking f n) a = (put_back free (λ p. p ≡ free) b.places r free refl refl, λ q m. get_or-set_other b.places r q free free m, refl)

-- ---- used places

pub used-below : (ps : List Place) (r : ℕ) → r < lowest_free ps → is_free (get_or ps r free) ≡ false
unfolding lowest_free
used-below [] r h = absurd (omega arith)
used-below (free ∷ ps) r h = absurd (omega arith)
used-below (row key first ticks ∷ ps) zero h = refl
used-below (row key first ticks ∷ ps) (suc r) h = used-below ps r (omega arith)

pub lowest-in : (ps : List Place) → lowest_free ps ≤ length ps
unfolding lowest_free
lowest-in [] = zero-le
lowest-in (free ∷ ps) = zero-le
lowest-in (row key first ticks ∷ ps) = suc-le-suc (lowest-in ps)

-- ---- ticks and counts

-- An accepted tick or untick: the number is in the row, and the position was not already so.
pub record Changes (flag : Bool) (i : ℕ) (worked : Positions) : Type 0 where
  pub in-row : i < row_length
  pub was-not : has worked i ≡ not flag

differs : (x flag : Bool) → beq x flag ≡ false → x ≡ not flag
differs true true e = cc
differs true false e = refl
differs false true e = refl
differs false false e = cc

pub changes : (flag : Bool) (i : ℕ) (worked : Positions) → mark_verdict flag i worked ≡ 0 → Changes flag i worked
unfolding mark_verdict
changes flag i worked = at (not (in_row i)) refl (beq (has worked i) flag) refl
  where
    number : (f : Bool) → already_so f ≢ 0
    number true e = omega arith
    number false e = omega arith

    at : (t : Bool) → not (in_row i) ≡ t → (u : Bool) → beq (has worked i) flag ≡ u
        → cond t 28 (cond u (already_so flag) 0) ≡ 0 → Changes flag i worked
    at true p u q e = absurd (omega arith)
    at false p true q e = absurd (number flag e)
    at false p false q e = record { in-row = ltb-true i row_length (not-false _ p); was-not = differs _ flag q }

-- The count is one more after a tick, one less after an untick.
abbrev pub Counted : (flag : Bool) (before after : ℕ) → Type 0
Counted true before after = after ≡ suc before
Counted false before after = suc after ≡ before

pub size-mark : (flag : Bool) (i : ℕ) (worked : Positions) → IsSet worked → Changes flag i worked → Counted flag (size worked) (size (set worked i flag))
size-mark true i worked l k = size-tick worked i (rw l k.in-row) k.was-not
size-mark false i worked l k = size-untick worked i k.was-not

pub mark-counts : (b : Book) → WellFormed b → (flag : Bool) (d n : ℕ) → (step (Mark flag d n) b).answer ≡ done
    → Counted flag (size (worked_of (desk b d))) (size (worked_of (desk (step (Mark flag d n) b).book d)))
mark-counts b w flag d n = at (outcome (Mark flag d n) b)
  where
    at : {s : Reply} → Outcome b (Mark flag d n) s → s.answer ≡ done
        → Counted flag (size (worked_of (desk b d))) (size (worked_of (desk s.book d)))
    at (refusal number m) a = absurd (true≢false m)
    at (unopened number e) a = absurd (false≢true cc)
    at (unmarked r opened worked i number h p q z) a = absurd (false≢true cc)
    at (marking r opened worked i h p q) a =
        let k = rw h.1 at (w.desk_ok d) in
        rw (h.1, get_or-set_same b.desks d (working r opened (set worked i flag)) _ (rw w.desks-count (ltb-true d 8 h.0)))
        (size-mark flag i worked k.2 (changes flag i worked q))

-- A row's ticked and missing positions are together at most 1,024.
pub counts-bound : (b : Book) → WellFormed b → (r : ℕ) → size (ticks_of (place b r)) + size (missing (ticks_of (place b r))) ≤ row_length
unfolding size missing
counts-bound b w r = at (place b r) (w.place_ok r)
  where
    at : (p : Place) → PlaceOk p → size (ticks_of p) + size (missing (ticks_of p)) ≤ row_length
    at free k = zero-le
    at (row key first ticks) k = rw (← k.2) (size-missing ticks)

-- ---- the rule of save

module _ (b : Book) (d r : ℕ) (opened worked : Positions) (h : Has b d r opened worked) where
  -- An accepted save makes the worked set the row's.
  pub save-stores : is_free (place b r) ≡ false → (step (Save d) b).answer ≡ done → ticks_of (place (step (Save d) b).book r) ≡ worked
  save-stores u =
      rw (save-step b d h.0 r opened worked h.1)
      (by-test (λ (s : Reply). s.answer ≡ done → ticks_of (place s.book r) ≡ worked) (same (ticks_of (place b r)) opened)
      (λ _ _. stored (has-row (place b r) u))
      (λ _ a. cc))
    where
      stored : HasRow (place b r) → ticks_of (get_or (set b.places r (with_ticks worked (place b r))) r free) ≡ worked
      stored k = rw (get_or-set_same b.places r _ free (row_in b.places r k.is), k.is)

  -- A stale one changes no place.
  pub stale-stores-nothing : (step (Save d) b).answer ≡ refused 31 → (step (Save d) b).book.places ≡ b.places
  stale-stores-nothing =
      rw (save-step b d h.0 r opened worked h.1)
      (by-test (λ (s : Reply). s.answer ≡ refused 31 → s.book.places ≡ b.places) (same (ticks_of (place b r)) opened)
      (λ _ a. cc)
      (λ _ _. refl))

  -- Either closes the desk.
  pub save-closes : desk (step (Save d) b).book d ≡ closed
  save-closes =
      rw (save-step b d h.0 r opened worked h.1)
      (by-test (λ (s : Reply). desk s.book d ≡ closed) (same (ticks_of (place b r)) opened)
      (λ _. put_back closed (λ x. x ≡ closed) b.desks d closed refl refl)
      (λ _. put_back closed (λ x. x ≡ closed) b.desks d closed refl refl))

-- ---- answers as numbers

-- An answer whose refusal, if it is one, has a number of the table.
abbrev pub Proper : Answer → Type 0
Proper (gave words) = Unit {0}
Proper (refused number) = number ≢ 0

-- Different answers have different words.
pub words-injective : (x y : Answer) → Proper x → Proper y → answer_words x ≡ answer_words y → x ≡ y
words-injective (gave v) (gave w) p q e = cc
words-injective (gave v) (refused n) p q e = absurd (q (cc))
words-injective (refused n) (gave w) p q e = absurd (p (cc))
words-injective (refused n) (refused m) p q e = cc

pub step-proper : (c : Call) (b : Book) → Proper (step c b).answer
unfolding step effect
step-proper c b =
    by-test (λ (s : Reply). Proper s.answer) (eqb (verdict (refusals c b)) 0) (λ _. effect-proper c) (λ e. eqb-false _ 0 e)
  where
    effect-proper : (c : Call) → Proper (effect c b).answer
    effect-proper (Enrol key first) = tt
    effect-proper (Ask q) = tt
    effect-proper (Open d r) = tt
    effect-proper (Mark flag d n) = tt
    effect-proper (Save d) = tt
    effect-proper (Drop d) = tt
    effect-proper (Strike r) = tt

-- ---- a list of calls, one after another

pub run-append : (b : Book) (xs ys : List Call)
    → let first = run b xs in
    let second = run first.book ys in
    run b (xs ++ ys) ≡ record { log = first.log ++ second.log; book = second.book }
unfolding run
run-append b [] ys = refl
run-append b (x ∷ xs) ys = rw (run-append (step x b).book xs ys)
