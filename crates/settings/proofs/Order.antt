-- The order of the settings changes no answer. Assumes nothing.
use Prim.Native.Nat.{ℕ, ◌<◌, ◌≤◌}
use native.Mathlib.Omega.{arith}
use mathlib.Core.Bool.{true, false, not, false≢true}
use mathlib.Core.List.{List, [], ◌∷◌, ◌++◌, append_assoc, append-nil, Memᴰ}
use mathlib.Core.Path.{◌≡◌, refl, sym, ap, ◌∙◌, subst}
use lib.ListN.{length, length-append}
use borrow.Author.Tests.{eq-eqb, ne_eqb, not-true}
use Rattle.laws.proofs.Bools.{and_split}
use Rattle.refusals.specs.Judge.{judge}
use Rattle.settings.specs.declared.Setting.{Setting}
use Rattle.std.specs.Prelude.{Option, Some, None}
use Rattle.settings.specs.Model.{places, is_of, holds, different, latest, found_words, add, ask, Fine, AllFine, WellFormed}
use Rattle.settings.specs.Sheet.{settings_of}
use Rattle.settings.specs.Claims.{Finds, SameSettings, add_each, AllThere, AnyOrder, AnyPlaces}
use Rattle.settings.proofs.Model.{is_of-sym}
use Rattle.settings.proofs.Latest.{finds}
use Rattle.settings.proofs.Added.{not-held, answer-right}
use Rattle.settings.proofs.Clauses.{right-parts}

-- ---- one setting for a mission and a day

clash : {A : Type 0} (m d : ℕ) (zs : List Setting) → holds m d zs ≡ false → (y : Setting) → Memᴰ y zs → y.mission ≡ m → y.day ≡ d → A
clash m d zs f y k p q =
    let there : is_of m d y ≡ true = rw (eq-eqb y.mission m p, eq-eqb y.day d q) in
    absurd (false≢true (sym (not-held m d zs f y k) ∙ there))

-- the first of different settings is none of the others
first-differs : (z : Setting) (zs : List Setting) → different (z ∷ zs) ≡ true → (holds z.mission z.day zs ≡ false) × (different zs ≡ true)
unfolding different
first-differs z zs e =
    let h = and_split (not (holds z.mission z.day zs)) (different zs) e in
    (not-true (holds z.mission z.day zs) h.0, h.1)

same-member : (zs : List Setting) → different zs ≡ true → (x y : Setting) → Memᴰ x zs → Memᴰ y zs → x.mission ≡ y.mission
    → x.day ≡ y.day → x ≡ y
same-member (z ∷ zs) e x y (Memᴰ.head p) (Memᴰ.head q) m d = p ∙ sym q
same-member (z ∷ zs) e x y (Memᴰ.head p) (Memᴰ.tail k) m d =
    clash z.mission z.day zs (first-differs z zs e).0 y k (sym m ∙ ap (λ (w : Setting). w.mission) p) (sym d ∙ ap (λ (w : Setting). w.day) p)
same-member (z ∷ zs) e x y (Memᴰ.tail k) (Memᴰ.head q) m d =
    clash z.mission z.day zs (first-differs z zs e).0 x k (m ∙ ap (λ (w : Setting). w.mission) q) (d ∙ ap (λ (w : Setting). w.day) q)
same-member (z ∷ zs) e x y (Memᴰ.tail k) (Memᴰ.tail l) m d = same-member zs (first-differs z zs e).1 x y k l m d
same-member [] e x y k _ m d = elim k [ ]

-- ---- the same settings, the same answer

module _ (m d : ℕ) (xs ys : List Setting) (differ : different xs ≡ true) (same : SameSettings xs ys) where
  same-found : (a b : Option Setting) → Finds m d xs a → Finds m d ys b → a ≡ b
  same-found None None p q = refl
  same-found None (Some y) p q = absurd (p y (same.back y q.there) q.old_enough)
  same-found (Some x) None p q = absurd (q x (same.forth x p.there) p.old_enough)
  same-found (Some x) (Some y) p q =
      let late : x.day ≤ y.day = q.none_later x (same.forth x p.there) p.old_enough in
      let early : y.day ≤ x.day = p.none_later y (same.back y q.there) q.old_enough in
      let mission = p.old_enough.of_mission ∙ sym q.old_enough.of_mission in
      ap Some (same-member xs differ x y p.there (same.back y q.there) mission (omega arith))

  same_answer : (ask m d xs).0 ≡ (ask m d ys).0
  unfolding ask
  same_answer = ap found_words (same-found (latest m d xs) (latest m d ys) (finds m d xs) (finds m d ys))

-- ---- what is added is there

middle : (x : Setting) (ys xs : List Setting) → Memᴰ x (ys ++ (x ∷ xs))
middle x [] xs = Memᴰ.head refl
middle x (y ∷ ys) xs = Memᴰ.tail (middle x ys xs)

new : (x : Setting) (ys xs : List Setting) → different (ys ++ (x ∷ xs)) ≡ true → holds x.mission x.day ys ≡ false
unfolding holds
new x [] xs e = refl
new x (y ∷ ys) xs e =
    let f = first-differs y (ys ++ (x ∷ xs)) e in
    let other : is_of x.mission x.day y ≡ false = is_of-sym x y ∙ not-held y.mission y.day (ys ++ (x ∷ xs)) f.0 x (middle x ys xs) in
    rw (other, new x ys xs f.1)

fine-at : (x : Setting) (ys xs : List Setting) → AllFine (ys ++ (x ∷ xs)) → Fine x
fine-at x [] xs f = f.0
fine-at x (y ∷ ys) xs f = fine-at x ys xs f.1

takes-place : (x : Setting) (ys xs : List Setting) → WellFormed (ys ++ (x ∷ xs)) → (add x.mission x.edition x.day x.frame ys).1 ≡ ys ++ (x ∷ [])
unfolding add judge
takes-place x ys xs w =
    let room : length ys < places = omega (arith, w.few, length-append ys (x ∷ xs)) in
    rw ((fine-at x ys xs w.fine).edition_known, new x ys xs w.differ, ne_eqb (length ys) places (λ e. omega arith))

there : (ys xs : List Setting) → WellFormed (ys ++ xs) → add_each ys xs ≡ ys ++ xs
unfolding add_each
there ys [] w = sym (append-nil ys)
there ys (x ∷ xs) w =
    let joined : ys ++ (x ∷ xs) ≡ (ys ++ (x ∷ [])) ++ xs = sym (append_assoc ys (x ∷ []) xs) in
    rw (takes-place x ys xs w) (there (ys ++ (x ∷ [])) xs (subst WellFormed joined w) ∙ sym joined)

pub all_there : AllThere
all_there xs w = there [] xs w

pub any_order : AnyOrder
any_order xs ys v w same m d = rw (all_there xs v, all_there ys w) (same_answer m d xs ys v.differ same)

pub any-places : AnyPlaces
any-places s t p q same m d =
    answer-right m d s p ∙ same_answer m d (settings_of s) (settings_of t) (right-parts s p).differ same ∙ sym (answer-right m d t q)
