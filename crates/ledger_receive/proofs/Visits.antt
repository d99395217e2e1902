-- Visits, and what was received is not ordered. Assumes nothing.
use Prim.Native.Nat.{ℕ, zero, suc}
use native.Mathlib.Decide.{ℕ_discrete}
use native.Mathlib.Omega.{arith}
use mathlib.Core.Path.{◌≡◌, refl, sym, ap, ◌∙◌}
use mathlib.Core.Logic.{◌≢◌, inl, inr}
use mathlib.Core.Bool.{Bool, true, false, cond, not, beq, true≢false, false≢true}
use mathlib.Core.List.{List, [], ◌∷◌, ◌++◌}
use lib.Dec.{eqb}
use lib.ListN.{get_or, set, length}
use lib.Seq.{get_or-set_same, get_or-set_other, set-set, set-get_or}
use borrow.Author.Tests.{eqb-true, ltb-true}
use Rattle.laws.proofs.Bools.{by-test}
use Rattle.refusals.specs.Judge.{judge, verdict}
use Rattle.keys.specs.Key.{valid_key}
use Rattle.ledger_model.specs.Positions.{position, Positions, has, same, in_row}
use Rattle.ledger_model.specs.Book.{Place, free, row, Desk, closed, working, Book, fresh, place, desk, put_place, put_desk}
use Rattle.ledger_model.specs.Book.{ticks_of, with_ticks, is_desk, has_key, place_with, position_at}
use Rattle.ledger_model.specs.Step.{Find, Call, Ask, Open, Save, Drop, Tick, done, refused, Reply, reply}
use Rattle.ledger_model.specs.Step.{answer_words, refusals, asked, effect, step, Run, run}
use Rattle.ledger_model.specs.WellFormed.{WellFormed}
use Rattle.ledger_model.specs.Kept.{TickedIn}
use Rattle.ledger_receive.specs.Visits.{Arrival, unread, arrived, tick_answer, leaving, visit, refusal_in, outcome, visits, outcomes}
use Rattle.ledger_layout.specs.Layout.{layout}
use Rattle.ledger_receive.specs.inner.Calls.{at_row, visiting}
use Rattle.ledger_receive.specs.Visits.{visit_rules, filed, Visited, EveryVisit, WasReceived, ReceivedNotOrdered}
use Rattle.ledger_model.proofs.Basics.{same_refl, row_in}
use Rattle.ledger_model.proofs.Steps.{mark_verdict, open_step, mark-step, save-step}
use Rattle.ledger_model.proofs.Outcome.{Outcome, refusal, asking}
use Rattle.ledger_model.proofs.Outcome as Step
use Rattle.ledger_model.proofs.WellFormed.{well-formed-from, run-well-formed}
use Rattle.ledger_model.proofs.Laws.{changes, run-append}
use Rattle.ledger_model.proofs.Kept.{tick-keeps, tick-stays, not-missing}

-- ---- the row with a key

pub record RowOf (ps : List Place) (key r : ℕ) : Type 0 where
  pub first : ℕ
  pub ticks : Positions
  pub is : get_or ps r free ≡ row key first ticks

pub row_of : (key : ℕ) (ps : List Place) → has_key key ps ≡ true → RowOf ps key (place_with key ps)
unfolding has_key place_with
row_of key [] e = absurd (false≢true e)
row_of key (free ∷ ps) e = let h = row_of key ps e in record { first = h.first; ticks = h.ticks; is = h.is }
row_of key (row k first ticks ∷ ps) e = at (eqb k key) refl (row_of key ps)
  where
    at : (t : Bool) → eqb k key ≡ t → (has_key key ps ≡ true → RowOf ps key (place_with key ps))
        → RowOf (row k first ticks ∷ ps) key (cond (eqb k key) zero (suc (place_with key ps)))
    at true q rest = rw q (record { first = first; ticks = ticks; is = ap (λ x. row x first ticks) (eqb-true k key q) })
    at false q rest = let h = rest (rw q at e) in rw q (record { first = h.first; ticks = h.ticks; is = h.is })

-- ---- one visit

-- The reply to a question changes no book.
asking-stays : (key : ℕ) (b : Book) → (step (Ask (Find key)) b).book ≡ b
asking-stays key b = at (Step.outcome (Ask (Find key)) b)
  where
    at : {t : Reply} → Outcome b (Ask (Find key)) t → t.book ≡ b
    at (refusal number m) = refl
    at (asking words) = refl

-- A desk that is opened and closed again is as it was.
desks-back : (b : Book) (d : ℕ) (x : Desk) → desk b d ≡ closed → set (set b.desks d x) d closed ≡ b.desks
desks-back b d x e = set-set b.desks d x closed ∙ ap (set b.desks d) (sym e) ∙ set-get_or b.desks d closed

-- What a mark of a desk with row r open is refused for, with the row's own set as the worked one; 0 where it is accepted.
abbrev pub tick_verdict : (key first n : ℕ) (ticks : Positions) → ℕ
tick_verdict key first n ticks = mark_verdict true (position key first n) ticks

module _ (b : Book) (w : WellFormed b) (d : ℕ) (t : is_desk d ≡ true) (x : desk b d ≡ closed)
    (r key first : ℕ) (ticks : Positions) (e : place b r ≡ row key first ticks) (n : ℕ) where
  abbrev i : ℕ
  i = position key first n

  abbrev v : ℕ
  v = tick_verdict key first n ticks

  -- the book with the row open at the desk, and with the number ticked there
  abbrev working-on : Positions → Book
  working-on worked = put_desk d (working r ticks worked) b

  desk-is : (worked : Positions) → desk (working-on worked) d ≡ working r ticks worked
  desk-is worked = get_or-set_same b.desks d (working r ticks worked) closed (rw w.desks-count (ltb-true d 8 t))

  opens : step (Open d r) b ≡ reply done (working-on ticks)
  opens = open_step b d t r key first ticks e x

  marks : step (Tick d n) (working-on ticks)
      ≡ cond (eqb v 0) (reply done (put_desk d (working r ticks (set ticks i true)) (working-on ticks))) (reply (refused v) (working-on ticks))
  marks = mark-step (working-on ticks) d t true n r ticks ticks (desk-is ticks) i (ap (λ p. position_at p n) e)

  ticks-one : eqb v 0 ≡ true → step (Tick d n) (working-on ticks) ≡ reply done (working-on (set ticks i true))
  ticks-one q =
      marks ∙ rw q (ap (λ ds. reply done (record { places = b.places; desks = ds })) (set-set b.desks d (working r ticks ticks) _))

  ticks-none : eqb v 0 ≡ false → step (Tick d n) (working-on ticks) ≡ reply (refused v) (working-on ticks)
  ticks-none q = marks ∙ rw q refl

  saves : (worked : Positions) → (step (Save d) (working-on worked)).book ≡ put_place r (row key first worked) b
  saves worked =
      let alike : same (ticks_of (place b r)) ticks ≡ true = rw e (same_refl ticks) in
      let stored : step (Save d) (working-on worked)
      ≡ reply done (put_desk d closed (put_place r (with_ticks worked (place b r)) (working-on worked))) =
      save-step (working-on worked) d t r ticks worked (desk-is worked) ∙ rw alike refl in
      ap (λ (y : Reply). y.book) stored
      ∙ rw e (ap (λ ds. record { places = set b.places r (row key first worked); desks = ds }) (desks-back b d (working r ticks worked) x))

  drops : (worked : Positions) → (step (Drop d) (working-on worked)).book ≡ b
  unfolding step refusals judge effect
  drops worked = rw (t, desk-is worked) (ap (λ ds. record { places = b.places; desks = ds }) (desks-back b d (working r ticks worked) x))

  -- what the tick answers, and what the visit leaves
  pub record RowVisit : Type 0 where
    pub number : refusal_in (tick_answer d r n b) ≡ v
    pub left : (run b (Open d r ∷ Tick d n ∷ leaving d (tick_answer d r n b) ∷ [])).book
        ≡ cond (eqb v 0) (put_place r (row key first (set ticks i true)) b) b

  ran : (l : Call) → (run b (Open d r ∷ Tick d n ∷ l ∷ [])).book ≡ (step l (step (Tick d n) (step (Open d r) b).book).book).book
  unfolding run
  ran l = refl

  pub row-visit : RowVisit
  row-visit = at (eqb v 0) refl
    where
      answer-is : (y : Reply) → step (Tick d n) (working-on ticks) ≡ y → tick_answer d r n b ≡ y.answer
      answer-is y m = ap (λ (z : Reply). (step (Tick d n) z.book).answer) opens ∙ ap (λ (z : Reply). z.answer) m

      book-is : (y : Reply) (l : Call) → step (Tick d n) (working-on ticks) ≡ y
          → (run b (Open d r ∷ Tick d n ∷ l ∷ [])).book ≡ (step l y.book).book
      book-is y l m =
          ran l ∙ ap (λ (z : Reply). (step l (step (Tick d n) z.book).book).book) opens ∙ ap (λ (z : Reply). (step l z.book).book) m

      at : (f : Bool) → eqb v 0 ≡ f → RowVisit
      at true q =
          let m = ticks-one q in
          let a = answer-is (reply done (working-on (set ticks i true))) m in
          record {
            number = ap refusal_in a ∙ sym (eqb-true v 0 q);
            left = ap (λ y. (run b (Open d r ∷ Tick d n ∷ leaving d y ∷ [])).book) a
                ∙ book-is (reply done (working-on (set ticks i true))) (Save d) m ∙ saves (set ticks i true) ∙ rw q refl;
          }
      at false q =
          let m = ticks-none q in
          let a = answer-is (reply (refused v) (working-on ticks)) m in
          record {
            number = ap refusal_in a;
            left = ap (λ y. (run b (Open d r ∷ Tick d n ∷ leaving d y ∷ [])).book) a
                ∙ book-is (reply (refused v) (working-on ticks)) (Drop d) m ∙ drops ticks ∙ rw q refl;
          }

-- ---- a visit by what the book holds

beq_same : (x : Bool) → beq x true ≡ x
beq_same true = refl
beq_same false = refl

module _ (d key n : ℕ) (b : Book) where
  -- where no row has the key
  pub visit-none : has_key key b.places ≡ false → (run b (visit d (arrived key n) b)).book ≡ b
  unfolding run visit
  visit-none h = rw h (asking-stays key b)

  pub outcome-none : has_key key b.places ≡ false → outcome d (arrived key n) b ≡ 25
  unfolding outcome
  outcome-none h = rw h

  -- and where one has
  pub visit-some : has_key key b.places ≡ true
      → let r = place_with key b.places in
      (run b (visit d (arrived key n) b)).book ≡ (run b (Open d r ∷ Tick d n ∷ leaving d (tick_answer d r n b) ∷ [])).book
  unfolding visit run
  visit-some h =
      rw h
      (ap (λ y. (run y (Open d (place_with key b.places) ∷ Tick d n ∷ leaving d (tick_answer d (place_with key b.places) n b) ∷ [])).book)
      (asking-stays key b))

  pub outcome-some : has_key key b.places ≡ true → outcome d (arrived key n) b ≡ refusal_in (tick_answer d (place_with key b.places) n b)
  unfolding outcome
  outcome-some h = rw h

  verdict-none : has_key key b.places ≡ false → verdict (visit_rules (arrived key n) b) ≡ 25
  unfolding judge
  verdict-none h = rw h

  verdict-some : has_key key b.places ≡ true → (p : Place) (first : ℕ) (ticks : Positions) → p ≡ row key first ticks
      → place b (place_with key b.places) ≡ p → tick_verdict key first n ticks ≡ verdict (visit_rules (arrived key n) b)
  unfolding judge mark_verdict
  verdict-some h p first ticks e q = rw (h, q, e, beq_same)

  filed-is : (p : Place) (first : ℕ) (ticks : Positions) → p ≡ row key first ticks
      → put_place (place_with key b.places) (row key first (set ticks (position key first n) true)) b
      ≡ put_place (place_with key b.places) (with_ticks (set (ticks_of p) (position_at p n) true) p) b
  filed-is p first ticks e = rw e refl

unread-visited : (d : ℕ) (b : Book) → Visited d unread b
unfolding run visit outcome judge
unread-visited d b = record { told = refl; left = refl }

pub visited : (b : Book) → WellFormed b → (d : ℕ) → is_desk d ≡ true → desk b d ≡ closed → (x : Arrival) → Visited d x b
visited b w d t x unread = unread-visited d b
visited b w d t x (arrived key n) = at (has_key key b.places) refl
  where
    at : (f : Bool) → has_key key b.places ≡ f → Visited d (arrived key n) b
    at false h =
        record {
          told = outcome-none d key n b h ∙ sym (verdict-none d key n b h);
          left = visit-none d key n b h ∙ rw (outcome-none d key n b h) refl;
        }
    at true h =
        let o = row_of key b.places h in
        let k = row-visit b w d t x (place_with key b.places) key o.first o.ticks o.is n in
        let v-is : outcome d (arrived key n) b ≡ tick_verdict key o.first n o.ticks = outcome-some d key n b h ∙ k.number in
        record {
          told = v-is ∙ verdict-some d key n b h _ o.first o.ticks o.is refl;
          left = visit-some d key n b h ∙ k.left
              ∙ rw v-is (ap (λ c. cond (eqb (tick_verdict key o.first n o.ticks) 0) c b) (filed-is d key n b _ o.first o.ticks o.is));
        }

pub every-visit : EveryVisit
every-visit calls d = visited (run fresh calls).book (run-well-formed calls) d

already-ticked : (i : ℕ) (ticks : Positions) → mark_verdict true i ticks ≡ 29 → has ticks i ≡ true
unfolding mark_verdict
already-ticked i ticks = at (in_row i) (has ticks i)
  where
    at : (f g : Bool) → cond {A = ℕ} (not f) 28 (cond (beq g true) 29 0) ≡ 29 → g ≡ true
    at false g e = absurd (omega arith)
    at true true e = refl
    at true false e = absurd (omega arith)

-- ---- the rest of the records come after the first

pub visits-none : (d : ℕ) (c : Book) → (run c (visits d [] c)).book ≡ c
unfolding run visits
visits-none d c = refl

pub visits-before : (d : ℕ) (y : Arrival) (ys : List Arrival) (b : Book)
    → (run b (visits d (y ∷ ys) b)).book ≡ (run (run b (visit d y b)).book (visits d ys (run b (visit d y b)).book)).book
unfolding visits
visits-before d y ys b = ap (λ (u : Run). u.book) (run-append b (visit d y b) (visits d ys (run b (visit d y b)).book))

-- ---- a ticked number, over a visit and over many

is_unread : Arrival → Bool
is_unread unread = true
is_unread (arrived key n) = false

pub not-unread : {key n : ℕ} → unread ≡ arrived key n → ⊥
unfolding is_unread
not-unread e = true≢false (ap is_unread e)

module _ (d : ℕ) (t : is_desk d ≡ true) where
  module _ (b : Book) (w : WellFormed b) (x : desk b d ≡ closed) where
    -- the desk has no row open after a visit
    pub still-closed : (y : Arrival) → desk (run b (visit d y b)).book d ≡ closed
    still-closed y = rw (visited b w d t x y).left (by-test (λ (c : Book). desk c d ≡ closed) (eqb (outcome d y b) 0) (λ _. filed-closed y) (λ _. x))
      where
        filed-closed : (y : Arrival) → desk (filed y b) d ≡ closed
        filed-closed unread = x
        filed-closed (arrived key n) = x

    pub visit-keeps : (y : Arrival) (r key first n : ℕ) → TickedIn b r key first n → TickedIn (run b (visit d y b)).book r key first n
    visit-keeps y r key first n k =
        rw (visited b w d t x y).left
        (by-test (λ (c : Book). TickedIn c r key first n) (eqb (outcome d y b) 0) (λ _. filed-keeps y) (λ _. k))
      where
        put_keeps : (q m : ℕ) → Dec (r ≡ q)
            → TickedIn (put_place q (with_ticks (set (ticks_of (place b q)) m true) (place b q)) b) r key first n
        put_keeps q m (yes e) =
            let is-row : place b q ≡ row key first k.ticks = rw e at k.is-row in
            rw e (record {
              ticks = set k.ticks m true;
              is-row = get_or-set_same b.places q _ free (row_in b.places q is-row) ∙ rw is-row refl;
              is-ticked = tick-keeps k.ticks m _ k.is-ticked;
            })
        put_keeps q m (no z) =
            record { ticks = k.ticks; is-row = get_or-set_other b.places q r _ free z ∙ k.is-row; is-ticked = k.is-ticked }

        filed-keeps : (y : Arrival) → TickedIn (filed y b) r key first n
        filed-keeps unread = k
        filed-keeps (arrived key' n') = put_keeps (place_with key' b.places) _ (ℕ_discrete r (place_with key' b.places))

    pub well-visited : (y : Arrival) → WellFormed (run b (visit d y b)).book
    well-visited y = well-formed-from (visit d y b) b w

  visits-keep : (ys : List Arrival) (b : Book) → WellFormed b → desk b d ≡ closed → (r key first n : ℕ) → TickedIn b r key first n
      → TickedIn (run b (visits d ys b)).book r key first n
  visits-keep [] b w x r key first n k = rw (visits-none d b) k
  visits-keep (y ∷ ys) b w x r key first n k =
      rw (visits-before d y ys b)
      (visits-keep ys _ (well-visited b w x y) (still-closed b w x y) r key first n (visit-keeps b w x y r key first n k))

  -- ---- a record that was received

  -- The row that has its number ticked.
  pub record Shelved (b : Book) (key n : ℕ) : Type 0 where
    pub row : ℕ
    pub first : ℕ
    pub ticked : TickedIn b row key first n

  module _ (b : Book) (w : WellFormed b) (x : desk b d ≡ closed) (key n : ℕ) where
    -- after its own visit
    pub visit-shelves : WasReceived (outcome d (arrived key n) b) → Shelved (run b (visit d (arrived key n) b)).book key n
    visit-shelves = at (has_key key b.places) refl
      where
        none : {m : ℕ} → m ≡ 25 → WasReceived m → ⊥
        none e (inl z) = omega (arith, e, z)
        none e (inr z) = omega (arith, e, z)

        at : (f : Bool) → has_key key b.places ≡ f → WasReceived (outcome d (arrived key n) b)
            → Shelved (run b (visit d (arrived key n) b)).book key n
        at false h o = absurd (none (outcome-none d key n b h) o)
        at true h o =
            let v = row-visit b w d t x (place_with key b.places) key k.first k.ticks k.is n in
            let number : outcome d (arrived key n) b ≡ tick_verdict key k.first n k.ticks = outcome-some d key n b h ∙ v.number in
            let left = visit-some d key n b h ∙ v.left in
            by o number left
          where
            k : RowOf b.places key (place_with key b.places)
            k = row_of key b.places h

            by : {c : Book} → WasReceived (outcome d (arrived key n) b) → outcome d (arrived key n) b ≡ tick_verdict key k.first n k.ticks
                → c ≡ cond (eqb (tick_verdict key k.first n k.ticks) 0)
                (put_place (place_with key b.places) (row key k.first (set k.ticks (position key k.first n) true)) b) b
                → Shelved c key n
            by (inl z) e q =
                let v : tick_verdict key k.first n k.ticks ≡ 0 = sym e ∙ z in
                let fits = (changes true (position key k.first n) k.ticks v).in-row in
                let ok = rw k.is at (w.place_ok (place_with key b.places)) in
                rw (q, v) (record {
                  row = place_with key b.places;
                  first = k.first;
                  ticked = record {
                    ticks = set k.ticks (position key k.first n) true;
                    is-row = get_or-set_same b.places _ _ free (row_in b.places _ k.is);
                    is-ticked = get_or-set_same k.ticks (position key k.first n) true false (rw ok.2 fits);
                  };
                })
            by (inr z) e q =
                let v : tick_verdict key k.first n k.ticks ≡ 29 = sym e ∙ z in
                rw (q, v) (record {
                  row = place_with key b.places;
                  first = k.first;
                  ticked = record { ticks = k.ticks; is-row = k.is; is-ticked = already-ticked (position key k.first n) k.ticks v };
                })

  pub visits-shelve : (ys : List Arrival) (b : Book) → WellFormed b → desk b d ≡ closed → (i key n : ℕ)
      → get_or ys i unread ≡ arrived key n → WasReceived (get_or (outcomes d ys b) i 12) → Shelved (run b (visits d ys b)).book key n
  unfolding outcomes
  visits-shelve [] b w x i key n e o = absurd (not-unread e)
  visits-shelve (y ∷ ys) b w x zero key n e o =
      let k = visit-shelves b w x key n (rw e at o) in
      record {
        row = k.row;
        first = k.first;
        ticked = rw (visits-before d y ys b, e) (visits-keep ys _ (well-visited b w x (arrived key n)) (still-closed b w x (arrived key n)) _ _ _ _ k.ticked);
      }
  visits-shelve (y ∷ ys) b w x (suc i) key n e o =
      let k = visits-shelve ys (run b (visit d y b)).book (well-visited b w x y) (still-closed b w x y) i key n e o in
      record { row = k.row; first = k.first; ticked = rw (visits-before d y ys b) k.ticked }

pub received-not-ordered : ReceivedNotOrdered
received-not-ordered calls more d t x xs i key n e o =
    let b = (run fresh calls).book in
    let history = calls ++ visits d xs b in
    let joined : (run fresh history).book ≡ (run b (visits d xs b)).book = ap (λ (u : Run). u.book) (run-append fresh calls (visits d xs b)) in
    let k = visits-shelve d t xs b (run-well-formed calls) x i key n e o in
    let here : TickedIn (run fresh history).book k.row key k.first n = rw joined k.ticked in
    record {
      row = k.row;
      first = k.first;
      ticked = here;
      not-missing = not-missing (run fresh history).book (run-well-formed history) k.row key k.first n here;
      stays = tick-stays history more k.row key k.first n here;
      stays_not_missing = λ z.
          not-missing (run (run fresh history).book more).book (well-formed-from more _ (run-well-formed history)) k.row key k.first n
          (tick-stays history more k.row key k.first n here z);
    }

-- ---- a visit as its code goes

-- What find says of the stream's row.
module _ (b : Book) (key : ℕ) (v : valid_key key ≡ true) where
  found-words : has_key key b.places ≡ true → answer_words (step (Ask (Find key)) b).answer ≡ 0 ∷ place_with key b.places ∷ []
  unfolding step refusals judge effect asked
  found-words h = rw (v, h)

  lost-words : has_key key b.places ≡ false → answer_words (step (Ask (Find key)) b).answer ≡ 25 ∷ []
  unfolding step refusals judge effect asked
  lost-words h = rw (v, h)

  pub found-row : (r : ℕ) → 0 ∷ r ∷ [] ≡ answer_words (step (Ask (Find key)) b).answer
      → (has_key key b.places ≡ true) × (r ≡ place_with key b.places)
  found-row r e = by (has_key key b.places) refl
    where
      by : (f : Bool) → has_key key b.places ≡ f → (has_key key b.places ≡ true) × (r ≡ place_with key b.places)
      by true h = (h, ap (λ (l : List ℕ). get_or l 1 0) (e ∙ found-words h))
      by false h = let z : ◌≡◌ {A = ℕ} 0 25 = ap (λ (l : List ℕ). get_or l 0 0) (e ∙ lost-words h) in absurd (omega arith)

  pub found_none : (q : ℕ) → q ≢ 0 → q ∷ [] ≡ answer_words (step (Ask (Find key)) b).answer → (has_key key b.places ≡ false) × (q ≡ 25)
  found_none q n e = by (has_key key b.places) refl
    where
      by : (f : Bool) → has_key key b.places ≡ f → (has_key key b.places ≡ false) × (q ≡ 25)
      by true h = absurd (n (ap (λ (l : List ℕ). get_or l 0 0) (e ∙ found-words h)))
      by false h = (h, ap (λ (l : List ℕ). get_or l 0 0) (e ∙ lost-words h))

module _ (d key n : ℕ) (b : Book) where
  pub visiting-row : has_key key b.places ≡ true → at_row d (place_with key b.places) n b ≡ visiting d (arrived key n) b
  visiting-row h = rw (outcome-some d key n b h, visit-some d key n b h) refl

  pub visiting-none : has_key key b.places ≡ false → visiting d (arrived key n) b ≡ (25, layout b)
  visiting-none h = rw (outcome-none d key n b h, visit-none d key n b h) refl

pub visiting-unread : (d : ℕ) (b : Book) → visiting d unread b ≡ (12, layout b)
unfolding run visit outcome
visiting-unread d b = refl

-- ---- one record more

module _ (d : ℕ) where
  visits-one : (x : Arrival) (b : Book) → (run b (visits d (x ∷ []) b)).book ≡ (run b (visit d x b)).book
  visits-one x b = visits-before d x [] b ∙ visits-none d (run b (visit d x b)).book

  pub visits-snoc : (xs : List Arrival) (x : Arrival) (b : Book)
      → let c = (run b (visits d xs b)).book in
      (run b (visits d (xs ++ x ∷ []) b)).book ≡ (run c (visit d x c)).book
  visits-snoc [] x b = visits-one x b ∙ sym (ap (λ c. (run c (visit d x c)).book) (visits-none d b))
  visits-snoc (y ∷ ys) x b =
      let c = (run b (visit d y b)).book in
      visits-before d y (ys ++ x ∷ []) b ∙ visits-snoc ys x c
      ∙ ap (λ c. (run c (visit d x c)).book) (sym (visits-before d y ys b))

  pub outcomes-snoc : (xs : List Arrival) (x : Arrival) (b : Book)
      → outcomes d (xs ++ x ∷ []) b ≡ outcomes d xs b ++ outcome d x (run b (visits d xs b)).book ∷ []
  unfolding outcomes
  outcomes-snoc [] x b = ap (λ c. outcome d x c ∷ []) (sym (visits-none d b))
  outcomes-snoc (y ∷ ys) x b =
      let c = (run b (visit d y b)).book in
      ap (λ (l : List ℕ). outcome d y b ∷ l)
      (outcomes-snoc ys x c ∙ ap (λ e. outcomes d ys c ++ outcome d x e ∷ []) (sym (visits-before d y ys b)))

  pub outcomes-count : (xs : List Arrival) (b : Book) → length (outcomes d xs b) ≡ length xs
  unfolding outcomes
  outcomes-count [] b = refl
  outcomes-count (y ∷ ys) b = ap suc (outcomes-count ys (run b (visit d y b)).book)
