-- The same records received again. Assumes nothing.
use Prim.Native.Nat.{ℕ, zero, suc}
use native.Mathlib.Decide.{ℕ_discrete}
use mathlib.Core.Path.{◌≡◌, refl, sym, ap, ◌∙◌}
use mathlib.Core.Bool.{Bool, true, false, cond, not, beq, false≢true, or-true}
use mathlib.Core.Option.{some}
use mathlib.Core.List.{List, [], ◌∷◌, map}
use lib.Dec.{eqb}
use lib.ListN.{get_or, set}
use lib.Seq.{get_or-set_same, get_or-set_other}
use borrow.Author.Tests.{eq-eqb}
use Rattle.ledger_layout.proofs.Writers.{set_twice, own-ticks}
use Rattle.laws.proofs.Bools.{by-test}
use Rattle.ledger_model.specs.Positions.{position, Positions, has, in_row}
use Rattle.ledger_model.specs.Book.{Place, free, row, closed, Book, fresh, place, desk, put_place, ticks_of, with_ticks, is_desk, has_key, place_with}
use Rattle.ledger_model.specs.Step.{run}
use Rattle.ledger_model.specs.WellFormed.{key_of, WellFormed}
use Rattle.ledger_model.proofs.Basics.{row_in}
use Rattle.ledger_model.proofs.Steps.{mark_verdict}
use Rattle.ledger_model.proofs.WellFormed.{well-formed-from, run-well-formed}
use Rattle.ledger_model.proofs.Laws.{changes}
use Rattle.ledger_model.proofs.Kept.{tick-keeps}
use Rattle.ledger_receive.specs.Visits.{Arrival, unread, arrived, visit, outcome, visits, outcomes, again, ReceivedAgain}
use Rattle.ledger_receive.proofs.Visits.{row_of, tick_verdict, row-visit, visit-none, visit-some, outcome-none, outcome-some, visited}
use Rattle.ledger_receive.proofs.Visits.{visits-none, visits-before, still-closed}

-- ---- a book that grew: no row but has the ticks that it had

record Grown (b c : Book) : Type 0 where
  alike : (r : ℕ) → place c r ≡ with_ticks (ticks_of (place c r)) (place b r)
  more : (r i : ℕ) → has (ticks_of (place b r)) i ≡ true → has (ticks_of (place c r)) i ≡ true

grown-none : (b : Book) → Grown b b
grown-none b = record { alike = λ r. sym (own-ticks (place b r)); more = λ r i h. h }

grown-more : {b c e : Book} → Grown b c → Grown c e → Grown b e
grown-more {b} {c} {e} g h =
    record {
      alike = λ r. h.alike r ∙ ap (with_ticks (ticks_of (place e r))) (g.alike r) ∙ set_twice _ _ (place b r);
      more = λ r i t. h.more r i (g.more r i t);
    }

-- A row of it.
grown-row : {b c : Book} → Grown b c → (r key first : ℕ) (ticks : Positions) → place b r ≡ row key first ticks
    → place c r ≡ row key first (ticks_of (place c r))
grown-row {c = c} g r key first ticks e = g.alike r ∙ ap (with_ticks (ticks_of (place c r))) e

-- The rows are those of the same streams.
has-key : (key : ℕ) (ps : List Place) (r : ℕ) {first : ℕ} {ticks : Positions} → get_or ps r free ≡ row key first ticks → has_key key ps ≡ true
unfolding has_key
has-key key [] r e = cc
has-key key (free ∷ ps) zero e = cc
has-key key (free ∷ ps) (suc r) e = has-key key ps r e
has-key key (row k f t ∷ ps) zero e = let q : k ≡ key = cc in rw (eq-eqb k key q)
has-key key (row k f t ∷ ps) (suc r) e = rw (has-key key ps r e) (or-true (eqb k key))

place-back : (s : Positions) (p : Place) {key first : ℕ} {ticks : Positions} → row key first ticks ≡ with_ticks s p → key_of p ≡ some key
place-back s free e = cc
place-back s (row k f t) e = cc

grown-lost : {b c : Book} → Grown b c → (key : ℕ) → has_key key b.places ≡ false → has_key key c.places ≡ false
grown-lost {b} {c} g key h = by (has_key key c.places) refl
  where
    from : (p : Place) → place b (place_with key c.places) ≡ p → key_of p ≡ some key → has_key key b.places ≡ true
    from free q k = cc
    from (row k' f t) q k = let s : k' ≡ key = cc in has-key key b.places _ (rw s at q)

    by : (f : Bool) → has_key key c.places ≡ f → has_key key c.places ≡ false
    by false q = q
    by true q =
        let o = row_of key c.places q in
        let k = place-back _ (place b (place_with key c.places)) (sym o.is ∙ g.alike (place_with key c.places)) in
        absurd (false≢true (sym h ∙ from (place b (place_with key c.places)) refl k))

-- ---- a visit grows the book

put-grown : (b : Book) (q key first : ℕ) (ticks : Positions) (i : ℕ) → place b q ≡ row key first ticks
    → Grown b (put_place q (row key first (set ticks i true)) b)
put-grown b q key first ticks i e = record { alike = λ r. alike r (ℕ_discrete r q); more = λ r j h. more r j h (ℕ_discrete r q) }
  where
    here : get_or (set b.places q (row key first (set ticks i true))) q free ≡ row key first (set ticks i true)
    here = get_or-set_same b.places q _ free (row_in b.places q e)

    alike : (r : ℕ) → Dec (r ≡ q)
        → get_or (set b.places q (row key first (set ticks i true))) r free
        ≡ with_ticks (ticks_of (get_or (set b.places q (row key first (set ticks i true))) r free)) (place b r)
    alike r (yes m) = rw (m, here, e) refl
    alike r (no m) = rw (get_or-set_other b.places q r (row key first (set ticks i true)) free m) (sym (own-ticks (place b r)))

    more : (r j : ℕ) → has (ticks_of (place b r)) j ≡ true → Dec (r ≡ q)
        → has (ticks_of (get_or (set b.places q (row key first (set ticks i true))) r free)) j ≡ true
    more r j h (yes m) = rw (m, here) (tick-keeps ticks i j (rw (m, e) at h))
    more r j h (no m) = rw (get_or-set_other b.places q r (row key first (set ticks i true)) free m) h

module _ (d : ℕ) (t : is_desk d ≡ true) where
  unread-outcome : (b : Book) → outcome d unread b ≡ 12
  unfolding outcome
  unread-outcome b = refl

  unread-left : (b : Book) → (run b (visit d unread b)).book ≡ b
  unfolding run visit
  unread-left b = refl

  visit-grown : (b : Book) → WellFormed b → desk b d ≡ closed → (y : Arrival) → Grown b (run b (visit d y b)).book
  visit-grown b w x unread = rw (unread-left b) (grown-none b)
  visit-grown b w x (arrived key n) = by (has_key key b.places) refl
    where
      by : (f : Bool) → has_key key b.places ≡ f → Grown b (run b (visit d (arrived key n) b)).book
      by false h = rw (visit-none d key n b h) (grown-none b)
      by true h =
          let o = row_of key b.places h in
          let k = row-visit b w d t x (place_with key b.places) key o.first o.ticks o.is n in
          rw (visit-some d key n b h, k.left)
          (by-test (Grown b) (eqb (tick_verdict key o.first n o.ticks) 0)
          (λ _. put-grown b (place_with key b.places) key o.first o.ticks _ o.is)
          (λ _. grown-none b))

  visits-grown : (ys : List Arrival) (b : Book) → WellFormed b → desk b d ≡ closed → Grown b (run b (visits d ys b)).book
  visits-grown [] b w x = rw (visits-none d b) (grown-none b)
  visits-grown (y ∷ ys) b w x =
      rw (visits-before d y ys b)
      (grown-more (visit-grown b w x y) (visits-grown ys _ (well-formed-from (visit d y b) b w) (still-closed d t b w x y)))

  all_closed : (ys : List Arrival) (b : Book) → WellFormed b → desk b d ≡ closed → desk (run b (visits d ys b)).book d ≡ closed
  all_closed [] b w x = rw (visits-none d b) x
  all_closed (y ∷ ys) b w x =
      rw (visits-before d y ys b) (all_closed ys _ (well-formed-from (visit d y b) b w) (still-closed d t b w x y))

  -- ---- a record once more, in a book that grew since its visit

  -- what the tick is refused for, once the number is ticked
  ticked-verdict : (i : ℕ) (ticks later : Positions) → (mark_verdict true i ticks ≡ 0 → has later i ≡ true)
      → (has ticks i ≡ true → has later i ≡ true) → mark_verdict true i later ≡ again (mark_verdict true i ticks)
  unfolding mark_verdict
  ticked-verdict i ticks later z g = by (in_row i) (has ticks i) refl (has later i) refl z g
    where
      by : (f a : Bool) → has ticks i ≡ a → (l : Bool) → has later i ≡ l
          → (cond {A = ℕ} (not f) 28 (cond (beq (has ticks i) true) 29 0) ≡ 0 → has later i ≡ true) → (has ticks i ≡ true → has later i ≡ true)
          → cond {A = ℕ} (not f) 28 (cond (beq (has later i) true) 29 0)
          ≡ again (cond {A = ℕ} (not f) 28 (cond (beq (has ticks i) true) 29 0))
      by false a p l q z g = refl
      by true true p l q z g = rw (g p, p)
      by true false p l q z g = rw (z (rw p refl), p)

  module _ (b : Book) (w : WellFormed b) (x : desk b d ≡ closed) (c : Book) (u : WellFormed c) (y : desk c d ≡ closed) where
    outcome-again : (a : Arrival) → Grown (run b (visit d a b)).book c → outcome d a c ≡ again (outcome d a b)
    outcome-again unread g = unread-outcome c ∙ sym (ap again (unread-outcome b))
    outcome-again (arrived key n) g = by (has_key key b.places) refl
      where
        since : Grown b c
        since = grown-more (visit-grown b w x (arrived key n)) g

        by : (f : Bool) → has_key key b.places ≡ f → outcome d (arrived key n) c ≡ again (outcome d (arrived key n) b)
        by false h = outcome-none d key n c (grown-lost since key h) ∙ sym (ap again (outcome-none d key n b h))
        by true h =
            let o = row_of key b.places h in
            let r = place_with key b.places in
            let later = ticks_of (place c r) in
            let i = position key o.first n in
            let k = row-visit b w d t x r key o.first o.ticks o.is n in
            let now-row : place c r ≡ row key o.first later = grown-row since r key o.first o.ticks o.is in
            let has-it : has_key key c.places ≡ true = has-key key c.places r now-row in
            let same_row : place_with key c.places ≡ r =
            u.keys_differ (place_with key c.places) r key (ap key_of (row_of key c.places has-it).is) (ap key_of now-row) in
            let there : place c (place_with key c.places) ≡ row key o.first later = ap (place c) same_row ∙ now-row in
            let m = row-visit c u d t y (place_with key c.places) key o.first later there n in
            let ok = rw o.is at (w.place_ok r) in
            let kept : has o.ticks i ≡ true → has later i ≡ true = λ z. since.more r i (rw o.is z) in
            let made : tick_verdict key o.first n o.ticks ≡ 0 → has later i ≡ true = λ z.
            let fits = (changes true i o.ticks z).in-row in
            let left : (run b (visit d (arrived key n) b)).book ≡ put_place r (row key o.first (set o.ticks i true)) b =
            visit-some d key n b h ∙ k.left ∙ rw z refl in
            let put : place (run b (visit d (arrived key n) b)).book r ≡ row key o.first (set o.ticks i true) =
            ap (λ e. place e r) left ∙ get_or-set_same b.places r _ free (row_in b.places r o.is) in
            g.more r i (ap (λ q. has (ticks_of q) i) put ∙ get_or-set_same o.ticks i true false (rw ok.2 fits)) in
            outcome-some d key n c has-it ∙ m.number ∙ ticked-verdict i o.ticks later made kept
            ∙ ap again (sym (outcome-some d key n b h ∙ k.number))

    again-left : (a : Arrival) → Grown (run b (visit d a b)).book c → (run c (visit d a c)).book ≡ c
    again-left a g = (visited c u d t y a).left ∙ rw (outcome-again a g, again-some (outcome d a b)) refl
      where
        again-some : (o : ℕ) → eqb (again o) 0 ≡ false
        again-some o = by (eqb o 0) refl
          where
            by : (f : Bool) → eqb o 0 ≡ f → eqb (again o) 0 ≡ false
            by true q = rw q refl
            by false q = rw q q

  -- ---- all of them

  again-all : (ys : List Arrival) (b : Book) → WellFormed b → desk b d ≡ closed → (c : Book) → WellFormed c → desk c d ≡ closed
      → Grown (run b (visits d ys b)).book c → (outcomes d ys c ≡ map again (outcomes d ys b)) × ((run c (visits d ys c)).book ≡ c)
  unfolding outcomes
  again-all [] b w x c u y g = (refl, visits-none d c)
  again-all (a ∷ ys) b w x c u y g =
      let b' = (run b (visit d a b)).book in
      let w' = well-formed-from (visit d a b) b w in
      let x' = still-closed d t b w x a in
      let g' : Grown (run b' (visits d ys b')).book c = rw (visits-before d a ys b) at g in
      let here = grown-more (visits-grown ys b' w' x') g' in
      let stays = again-left b w x c u y a here in
      let rest = again-all ys b' w' x' c u y g' in
      let told : outcomes d ys (run c (visit d a c)).book ≡ map again (outcomes d ys b') = ap (outcomes d ys) stays ∙ rest.0 in (
        (λ j. outcome-again b w x c u y a here j ∷ told j),
        visits-before d a ys c ∙ ap (λ e. (run e (visits d ys e)).book) stays ∙ rest.1,
      )

pub received-again : ReceivedAgain
received-again calls d t x xs =
    let b = (run fresh calls).book in
    let w = run-well-formed calls in
    let c = (run b (visits d xs b)).book in
    let both = again-all d t xs b w x c (well-formed-from (visits d xs b) b w) (all_closed d t xs b w x) (grown-none c) in
    record { told = both.0; left = both.1 }
