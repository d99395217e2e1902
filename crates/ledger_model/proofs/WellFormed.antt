-- Every book that calls can reach is well-formed. Assumes nothing.
use Rattle.std.proofs.Common.{◌≡◌, ℕ, zero, suc, false, eqb, ◌≢◌, ◌⊎◌, List, [], ◌∷◌, get_or, set, sym, refl, ap, ◌∙◌, inl, inr, length-set, get_or-set_other}
use Rattle.std.proofs.Common.{get_or-set_same, ltb-true}
use native.Mathlib.Decide.{ℕ_discrete}
use mathlib.Core.Bool.{false≢true}
use mathlib.Core.Option.{some}
use lib.ListN.{length-replicate}
use borrow.Author.Tests.{eqb-false}
use Rattle.laws.proofs.Bools.{or-neither}
use Rattle.keys.specs.Numbers.{modulus}
use Rattle.ledger_model.specs.Positions.{row_length, Positions, no_ticks}
use Rattle.ledger_model.specs.Book.{Place, free, row, Desk, closed, working, Book, fresh, place}
use Rattle.ledger_model.specs.Book.{desk, put_place, put_desk, is_free, with_ticks, has_key, lowest_free, any_has_open}
use Rattle.ledger_model.specs.Step.{Call, Reply, step, run}
use Rattle.ledger_model.specs.WellFormed.{IsSet, PlaceOk, DeskOk, key_of, WellFormed}
use Rattle.ledger_model.proofs.Basics.{not-open, put_all, put_same, read-replicate}
use Rattle.ledger_model.proofs.Outcome.{Admitted, Outcome, refusal, enrolment, asking, opening, unopened}
use Rattle.ledger_model.proofs.Outcome.{unmarked, marking, saving, stale, dropping, striking, outcome}

-- A key that is new is the key of no place.
absent : (ps : List Place) (key r : ℕ) → has_key key ps ≡ false → key_of (get_or ps r free) ≢ some key
unfolding has_key
absent [] key r n e = false≢true cc
absent (free ∷ ps) key zero n e = false≢true cc
absent (free ∷ ps) key (suc r) n e = absent ps key r n e
absent (row k first s ∷ ps) key zero n e = let q : k ≡ key = cc in eqb-false k key (or-neither (eqb k key) _ n).0 q
absent (row k first s ∷ ps) key (suc r) n e = absent ps key r (or-neither (eqb k key) _ n).1 e

row_stays : (ps : List Place) (r q : ℕ) (p : Place) → is_free p ≡ false → is_free (get_or ps q free) ≡ false
    → is_free (get_or (set ps r p) q free) ≡ false
row_stays [] r q p t h = h
row_stays (x ∷ ps) zero zero p t h = t
row_stays (x ∷ ps) zero (suc q) p t h = h
row_stays (x ∷ ps) (suc r) zero p t h = h
row_stays (x ∷ ps) (suc r) (suc q) p t h = row_stays ps r q p t h

no_ticks-length : IsSet no_ticks
unfolding no_ticks
no_ticks-length = length-replicate row_length false

-- ---- one call

-- The places change, and an open desk's row stays a row.
desks-keep : (ps qs : List Place) (x : Desk)
    → ((r : ℕ) (opened worked : Positions) → x ≡ working r opened worked → is_free (get_or ps r free) ≡ false → is_free (get_or qs r free) ≡ false)
    → DeskOk ps x → DeskOk qs x
desks-keep ps qs closed f k = tt
desks-keep ps qs (working r opened worked) f k = (f r opened worked refl k.0, k.1, k.2)

module _ (b : Book) (s : WellFormed b) where
  desk-put : (d : ℕ) (x : Desk) → DeskOk b.places x → WellFormed (put_desk d x b)
  desk-put d x k =
      record {
        places_count = s.places_count;
        desks-count = rw length-set s.desks-count;
        place_ok = s.place_ok;
        desk_ok = put_all closed (λ e. DeskOk b.places) b.desks d x tt k (λ e n. s.desk_ok e);
        keys_differ = s.keys_differ;
      }

  enrolled : (key first : ℕ) → Admitted key first b → WellFormed (put_place (lowest_free b.places) (row key first no_ticks) b)
  enrolled key first a =
      record {
        places_count = rw length-set s.places_count;
        desks-count = s.desks-count;
        place_ok =
            put_all free (λ q. PlaceOk) b.places r new tt (a.is-valid, ltb-true first (modulus key) a.is-number, no_ticks-length)
            (λ q n. s.place_ok q);
        desk_ok = λ d. desks-keep b.places _ (desk b d) (λ q opened worked x. row_stays b.places r q new refl) (s.desk_ok d);
        keys_differ = λ q₁ q₂ k e₁ e₂. differ q₁ q₂ k (read q₁ k e₁) (read q₂ k e₂);
      }
    where
      r : ℕ
      r = lowest_free b.places

      new : Place
      new = row key first no_ticks

      here : get_or (set b.places r new) r free ≡ new
      here = get_or-set_same b.places r new free a.is-lowest.in_list

      other : (q : ℕ) → q ≢ r → get_or (set b.places r new) q free ≡ place b q
      other q n = get_or-set_other b.places r q new free n

      -- A place with key k is the new row, or had that key before.
      read : (q k : ℕ) → key_of (get_or (set b.places r new) q free) ≡ some k → ((q ≡ r) × (k ≡ key)) ⊎ (key_of (place b q) ≡ some k)
      read q k e = at (ℕ_discrete q r)
        where
          at : Dec (q ≡ r) → ((q ≡ r) × (k ≡ key)) ⊎ (key_of (place b q) ≡ some k)
          at (yes p) = let e' : key_of new ≡ some k = rw (p, here) at e in inl (p, cc)
          at (no n) = inr (rw (other q n) at e)

      differ : (q₁ q₂ k : ℕ) → ((q₁ ≡ r) × (k ≡ key)) ⊎ (key_of (place b q₁) ≡ some k)
          → ((q₂ ≡ r) × (k ≡ key)) ⊎ (key_of (place b q₂) ≡ some k) → q₁ ≡ q₂
      differ q₁ q₂ k (inl x) (inl y) = x.0 ∙ sym y.0
      differ q₁ q₂ k (inl x) (inr y) = absurd (absent b.places key q₂ a.is-new (y ∙ ap some x.1))
      differ q₁ q₂ k (inr x) (inl y) = absurd (absent b.places key q₁ a.is-new (x ∙ ap some y.1))
      differ q₁ q₂ k (inr x) (inr y) = s.keys_differ q₁ q₂ k x y

  pub saved : (r : ℕ) (w : Positions) → IsSet w → WellFormed (put_place r (with_ticks w (place b r)) b)
  saved r w l =
      record {
        places_count = rw length-set s.places_count;
        desks-count = s.desks-count;
        place_ok = put_all free (λ q. PlaceOk) b.places r _ tt (stored (place b r) (s.place_ok r)) (λ q n. s.place_ok q);
        desk_ok = λ d. desks-keep b.places _ (desk b d) (λ q opened worked x h. rows q ∙ h) (s.desk_ok d);
        keys_differ = λ q₁ q₂ key e₁ e₂. s.keys_differ q₁ q₂ key (sym (keys q₁) ∙ e₁) (sym (keys q₂) ∙ e₂);
      }
    where
      stored : (p : Place) → PlaceOk p → PlaceOk (with_ticks w p)
      stored free k = tt
      stored (row key first ticks) k = (k.0, k.1, l)

      is_free_lem : (p : Place) → is_free (with_ticks w p) ≡ is_free p
      is_free_lem free = refl
      is_free_lem (row key first ticks) = refl

      key-of : (p : Place) → key_of (with_ticks w p) ≡ key_of p
      key-of free = refl
      key-of (row key first ticks) = refl

      rows : (q : ℕ) → is_free (get_or (set b.places r (with_ticks w (place b r))) q free) ≡ is_free (place b q)
      rows = put_same free is_free b.places r _ (is_free_lem (place b r))

      keys : (q : ℕ) → key_of (get_or (set b.places r (with_ticks w (place b r))) q free) ≡ key_of (place b q)
      keys = put_same free key_of b.places r _ (key-of (place b r))

  struck : (r : ℕ) → any_has_open r b.desks ≡ false → WellFormed (put_place r free b)
  struck r n =
      record {
        places_count = rw length-set s.places_count;
        desks-count = s.desks-count;
        place_ok = put_all free (λ q. PlaceOk) b.places r free tt tt (λ q m. s.place_ok q);
        desk_ok = λ d. desks-keep b.places _ (desk b d)
            (λ q opened worked x h. rw (get_or-set_other b.places r q free free (not-open b.desks r d q opened worked n x)) h)
            (s.desk_ok d);
        keys_differ = λ q₁ q₂ key e₁ e₂. s.keys_differ q₁ q₂ key (had q₁ key e₁) (had q₂ key e₂);
      }
    where
      had : (q key : ℕ) → key_of (get_or (set b.places r free) q free) ≡ some key → key_of (place b q) ≡ some key
      had q key = put_all free (λ j p. key_of p ≡ some key → key_of (place b j) ≡ some key) b.places r free (λ e. cc) (λ e. cc) (λ j m e. e) q

pub well-formed : (b : Book) → WellFormed b → {c : Call} {t : Reply} → Outcome b c t → WellFormed t.book
well-formed b s (refusal number m) = s
well-formed b s (enrolment {key = key} {first = first} a) = enrolled b s key first a
well-formed b s (asking words) = s
well-formed b s (opening {d = d} {r = r} key first t u e x) =
    let p = rw e at (s.place_ok r) in desk-put b s d (working r t t) (ap is_free e, p.2, p.2)
well-formed b s (unopened number e) = s
well-formed b s (unmarked r opened worked i number h p q z) = s
well-formed b s (marking {flag = flag} {d = d} r opened worked i h p q) =
    let k = rw h.1 at (s.desk_ok d) in
    desk-put b s d (working r opened (set worked i flag)) (k.0, k.1, length-set worked i flag ∙ k.2)
well-formed b s (saving {d = d} r opened worked h t) =
    let k = rw h.1 at (s.desk_ok d) in desk-put (put_place r (with_ticks worked (place b r)) b) (saved b s r worked k.2) d closed tt
well-formed b s (stale {d = d} r opened worked h t) = desk-put b s d closed tt
well-formed b s (dropping {d = d} t x) = desk-put b s d closed tt
well-formed b s (striking {r = r} f n) = struck b s r n

-- ---- the whole list

pub well-formed-from : (calls : List Call) (b : Book) → WellFormed b → WellFormed (run b calls).book
unfolding run
well-formed-from [] b s = s
well-formed-from (c ∷ calls) b s = well-formed-from calls (step c b).book (well-formed b s (outcome c b))

pub fresh-well-formed : WellFormed fresh
fresh-well-formed =
    record {
      places_count = refl;
      desks-count = refl;
      place_ok = λ r. rw (read-replicate free 32 r) tt;
      desk_ok = λ d. rw (read-replicate closed 8 d) tt;
      keys_differ = λ r q key e _. let z : key_of free ≡ some key = sym (ap key_of (read-replicate free 32 r)) ∙ e in cc;
    }

-- Every book that calls can reach from a fresh one is well-formed.
pub run-well-formed : (calls : List Call) → WellFormed (run fresh calls).book
run-well-formed calls = well-formed-from calls fresh fresh-well-formed
