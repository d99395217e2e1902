-- What the questions about a desk say of its save. Assumes nothing.
use Rattle.std.proofs.Common.{◌≡◌, ℕ, ◌+◌, Bool, true, false, cond, not, ◌↔◌, [], ◌∷◌, length, sym, refl, ap, ◌∙◌, arith}
use Rattle.refusals.specs.Judge.{judge}
use Rattle.ledger_model.specs.Positions.{Positions, same, minus, size}
use Rattle.ledger_model.specs.Book.{Desk, closed, working, Book, place, desk, ticks_of, is_desk, is_open, opened_of, worked_of}
use Rattle.ledger_model.specs.Step.{DeskState, Unsaved, Ask, Save, gave, refused, step, refusals, asked, effect}
use Rattle.ledger_model.specs.WellFormed.{WellFormed, DeskOk}
use Rattle.ledger_model.specs.Desks.{StaleIsToldExactly, UnsavedTold, EveryUnsaved}
use Rattle.ledger_model.proofs.Steps.{save-step}
use Rattle.ledger_model.proofs.WellFormed.{run-well-formed}

-- ---- whether a save would be stale

told-stale : (b : Book) (d r stale q : ℕ) (opened worked : Positions) → is_desk d ≡ true → desk b d ≡ working q opened worked
    → (t : Bool) → same (ticks_of (place b q)) opened ≡ t → gave (q ∷ cond (not t) 1 0 ∷ []) ≡ gave (r ∷ stale ∷ [])
    → (stale ≡ 1) ↔ ((step (Save d) b).answer ≡ refused 31)
told-stale b d r stale q opened worked i x true s e =
    let zero-told : stale ≡ 0 = cc in
    let saves : (step (Save d) b).answer ≡ gave [] = rw (save-step b d i q opened worked x, s) in
    (λ one. absurd (omega arith), λ h. let z : gave [] ≡ refused 31 = sym saves ∙ h in let y : ◌≡◌ {A = ℕ} 0 1 = cc in absurd (omega arith))
told-stale b d r stale q opened worked i x false s e =
    let one_told : stale ≡ 1 = cc in
    let stops : (step (Save d) b).answer ≡ refused 31 = rw (save-step b d i q opened worked x, s) in
    (λ one. stops, λ h. one_told)

pub stale-is-told : StaleIsToldExactly
unfolding step refusals effect asked judge
stale-is-told b d r stale = by (is_desk d) refl (desk b d) refl
  where
    by : (t : Bool) → is_desk d ≡ t → (x : Desk) → desk b d ≡ x → (step (Ask (DeskState d)) b).answer ≡ gave (r ∷ stale ∷ [])
        → (stale ≡ 1) ↔ ((step (Save d) b).answer ≡ refused 31)
    by false i x q e = let z : refused 21 ≡ gave (r ∷ stale ∷ []) = rw i at e in let y : ◌≡◌ {A = ℕ} 0 1 = cc in absurd (omega arith)
    by true i closed q e = let z : gave [] ≡ gave (r ∷ stale ∷ []) = rw (i, q) at e in let y : ◌≡◌ {A = ℕ} 0 1 = cc in absurd (omega arith)
    by true i (working p opened worked) q e =
        told-stale b d r stale p opened worked i q (same (ticks_of (place b p)) opened) refl (rw (i, q) at e)

-- ---- what is not saved

-- Of two sets: what each has beyond the other is the difference of their sizes.
balanced : (s t : Positions) → length s ≡ length t → size s + size (minus t s) ≡ size t + size (minus s t)
unfolding minus size
balanced [] [] l = refl
balanced [] (y ∷ t) l = absurd (omega (arith, l))
balanced (x ∷ s) [] l = absurd (omega (arith, l))
balanced (true ∷ s) (true ∷ t) l = omega (arith, balanced s t (omega (arith, l)))
balanced (true ∷ s) (false ∷ t) l = omega (arith, balanced s t (omega (arith, l)))
balanced (false ∷ s) (true ∷ t) l = omega (arith, balanced s t (omega (arith, l)))
balanced (false ∷ s) (false ∷ t) l = balanced s t (omega (arith, l))

none-beyond : (s t : Positions) → length s ≡ length t → size (minus s t) ≡ 0 → size (minus t s) ≡ 0 → s ≡ t
unfolding minus size
none-beyond [] [] l e f = refl
none-beyond [] (y ∷ t) l e f = absurd (omega (arith, l))
none-beyond (x ∷ s) [] l e f = absurd (omega (arith, l))
none-beyond (true ∷ s) (true ∷ t) l e f = ap (λ u. true ∷ u) (none-beyond s t (omega (arith, l)) e f)
none-beyond (true ∷ s) (false ∷ t) l e f = absurd (omega (arith, e))
none-beyond (false ∷ s) (true ∷ t) l e f = absurd (omega (arith, f))
none-beyond (false ∷ s) (false ∷ t) l e f = ap (λ u. false ∷ u) (none-beyond s t (omega (arith, l)) e f)

self-beyond : (s : Positions) → size (minus s s) ≡ 0
unfolding minus size
self-beyond [] = refl
self-beyond (true ∷ s) = self-beyond s
self-beyond (false ∷ s) = self-beyond s

-- A desk's two sets are of one length.
desk-sets : (b : Book) (x : Desk) → DeskOk b.places x → length (worked_of x) ≡ length (opened_of x)
desk-sets b closed k = refl
desk-sets b (working r opened worked) k = k.2 ∙ sym k.1

counted : (b : Book) (d : ℕ) → WellFormed b
    → UnsavedTold b d (size (minus (worked_of (desk b d)) (opened_of (desk b d)))) (size (minus (opened_of (desk b d)) (worked_of (desk b d))))
counted b d ok =
    let worked = worked_of (desk b d) in
    let opened = opened_of (desk b d) in
    let l = desk-sets b (desk b d) (ok.desk_ok d) in
    record {
      balance = balanced worked opened l;
      none_exactly =
          (λ none. none-beyond worked opened l none.0 none.1, λ e. (rw e (self-beyond opened), rw e (self-beyond opened)));
    }

given-counts : (b : Book) (d : ℕ) (ticks unticks : ℕ) → WellFormed b → (step (Ask (Unsaved d)) b).answer ≡ gave (ticks ∷ unticks ∷ [])
    → UnsavedTold b d ticks unticks
unfolding step refusals effect asked judge
given-counts b d ticks unticks ok = by (is_desk d) (is_open (desk b d)) refl refl
  where
    x : Positions × Positions
    x = (worked_of (desk b d), opened_of (desk b d))

    by : (t u : Bool) → is_desk d ≡ t → is_open (desk b d) ≡ u → (step (Ask (Unsaved d)) b).answer ≡ gave (ticks ∷ unticks ∷ [])
        → UnsavedTold b d ticks unticks
    by false u i o e = let z : refused 21 ≡ gave (ticks ∷ unticks ∷ []) = rw i at e in let y : ◌≡◌ {A = ℕ} 0 1 = cc in absurd (omega arith)
    by true false i o e = let z : refused 27 ≡ gave (ticks ∷ unticks ∷ []) = rw (i, o) at e in let y : ◌≡◌ {A = ℕ} 0 1 = cc in absurd (omega arith)
    by true true i o e =
        let z : gave (size (minus x.0 x.1) ∷ size (minus x.1 x.0) ∷ []) ≡ gave (ticks ∷ unticks ∷ []) = rw (i, o) at e in
        let t : ticks ≡ size (minus x.0 x.1) = cc in
        let u : unticks ≡ size (minus x.1 x.0) = cc in
        rw (t, u) (counted b d ok)

pub every-unsaved : EveryUnsaved
every-unsaved calls d ticks unticks e = given-counts _ d ticks unticks (run-well-formed calls) e
