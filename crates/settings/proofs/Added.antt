-- Adding a setting changes no answer for an earlier day or another mission; and `ask` gives the setting on its first day. Assumes nothing.
use Prim.Native.Nat.{ℕ, ◌<◌, ◌^◌}
use native.Mathlib.Omega.{arith}
use mathlib.Core.Bool.{Bool, true, false, and-false}
use mathlib.Core.List.{List, [], ◌∷◌, ◌++◌, Memᴰ}
use mathlib.Core.Logic.{◌⊎◌, inl, inr, ◌≢◌}
use mathlib.Core.Path.{◌≡◌, refl, sym, ap, ◌∙◌}
use lib.Dec.{eqb, lit<}
use lib.ListN.{length, get_or, length-append}
use borrow.Author.Tests.{eq-eqb, ne_eqb, le-leb, lt-leb, lt-ltb, eqb-false, not-false}
use Rattle.laws.proofs.Bools.{or-neither}
use Rattle.refusals.specs.Judge.{Rule, judge}
use Rattle.refusals.proofs.Judged as J
use Rattle.octets.proofs.Laws.{Bytes, are-bytes}
use Rattle.settings.specs.declared.Setting.{Setting}
use Rattle.std.specs.Prelude.{Option, Some, None}
use Rattle.settings.specs.Model.{places, known, is_of, holds, picked, latest, Outcome, add_rules, add, ask, WellFormed}
use Rattle.settings.specs.Sheet.{settings_of, right}
use Rattle.settings.specs.Layout.{layout, laid_out, on_sheet}
use Rattle.settings.specs.Claims.{answer_to, Added, EveryAdd}
use Rattle.settings.proofs.Model.{different-more, latest-more, fine_more}
use Rattle.settings.proofs.Sheets.{read-fine, reads-back, layout-right}
use Rattle.settings.proofs.Latest.{Each, latest-each}

-- ---- on lists

-- a setting that is not old enough, or of another mission, is not picked
picked-stays : (m d : ℕ) (best : Option Setting) (x : Setting) → (d < x.day) ⊎ (x.mission ≢ m) → picked m d best x ≡ best
unfolding picked
picked-stays m d best x (inl l) = rw (lt-leb x.day d l, and-false)
picked-stays m d best x (inr o) = rw (ne_eqb x.mission m o)

pub not-held : (m d : ℕ) (xs : List Setting) → holds m d xs ≡ false → (y : Setting) → Memᴰ y xs → is_of m d y ≡ false
unfolding holds
not-held m d (x ∷ xs) h y (Memᴰ.head q) = rw q (or-neither (is_of m d x) (holds m d xs) h).0
not-held m d (x ∷ xs) h y (Memᴰ.tail k) = not-held m d xs (or-neither (is_of m d x) (holds m d xs) h).1 y k
not-held m d [] h y k = elim k [ ]

module _ (m e d f : ℕ) (xs : List Setting) where
  abbrev x : Setting
  x = record { mission = m; edition = e; day = d; frame = f }

  abbrev rules : List (Rule ℕ)
  rules = add_rules m e d xs

  abbrev more : Outcome
  more = (0 ∷ [], xs ++ (x ∷ []))

  -- an add leaves the list as it was, or with one setting more
  left : (P : List Setting → Type 0) → P xs → (J.NoneHolds rules → P (xs ++ (x ∷ []))) → P (add m e d f xs).1
  unfolding add
  left P stay grow = by (J.outcome rules)
    where
      by : J.Outcome rules → P (judge {B = Outcome} (λ n. (n ∷ [], xs)) rules more).1
      by (J.none n) = rw (J.none-judge {B = Outcome} (λ n. (n ∷ [], xs)) rules more n) (grow n)
      by (J.first g w) = rw (J.first-judge {B = Outcome} (λ n. (n ∷ [], xs)) more w) stay

  pub keeps : (m' d' : ℕ) → (d' < d) ⊎ (m ≢ m') → (ask m' d' (add m e d f xs).1).0 ≡ (ask m' d' xs).0
  unfolding ask
  keeps m' d' h =
      left (λ ys. (ask m' d' ys).0 ≡ (ask m' d' xs).0) refl (λ v. rw (latest-more m' d' None xs x, picked-stays m' d' (latest m' d' xs) x h))

  -- what is found on the day of a setting that is not there is earlier
  earlier : holds m d xs ≡ false → picked m d (latest m d xs) x ≡ Some x
  unfolding picked
  earlier h = by (latest m d xs) (latest-each m d (λ y. is_of m d y ≡ false) None xs tt (not-held m d xs h))
    where
      by : (r : Option Setting) → Each m d (λ y. is_of m d y ≡ false) r → picked m d r x ≡ Some x
      by None k = rw (eq-eqb m m refl, le-leb d d (omega arith))
      by (Some y) k =
          let old = k.0 in
          let day : eqb y.day d ≡ false = rw (eq-eqb y.mission m old.of_mission) at k.1 in
          let other = eqb-false y.day d day in
          let most = old.not_after in
          let before : y.day < d = omega arith in
          rw (eq-eqb m m refl, le-leb d d (omega arith), lt-ltb y.day d before)

  accepted-none : (add m e d f xs).0 ≡ 0 ∷ [] → J.NoneHolds rules
  unfolding add
  accepted-none a = by (J.outcome rules)
    where
      by : J.Outcome rules → J.NoneHolds rules
      by (J.none n) = n
      by (J.first g w) =
          let p : 0 < g = J.first_gives (λ n. 0 < n) (lit< tt, (lit< tt, (lit< tt, tt))) w in
          let z : g ∷ [] ≡ 0 ∷ [] = rw (J.first-judge {B = Outcome} (λ n. (n ∷ [], xs)) more w) at a in
          absurd (omega (arith, ap (λ (l : List ℕ). get_or l 0 0) z))

  pub given : (add m e d f xs).0 ≡ 0 ∷ [] → (ask m d (add m e d f xs).1).0 ≡ 0 ∷ e ∷ d ∷ f ∷ []
  unfolding ask add judge
  given a =
      let n = accepted-none a in
      let grown : add m e d f xs ≡ more = J.none-judge {B = Outcome} (λ n. (n ∷ [], xs)) rules more n in
      rw (grown, latest-more m d None xs x, earlier n.1.0)

  pub add-fine : m < 256 ^ 1 → d < 256 ^ 4 → f < 256 ^ 4 → WellFormed xs → WellFormed (add m e d f xs).1
  add-fine hm hd hf ok =
      left WellFormed ok (λ n.
      let room = eqb-false (length xs) places n.1.1.0 in
      let few = ok.few in
      record {
        few = omega (arith, length-append xs (x ∷ []));
        fine = fine_more xs x ok.fine (record { mission_fits = hm; edition_known = not-false (known e) n.0; day_fits = hd; frame_fits = hf });
        differ = rw (different-more xs x, ok.differ, n.1.0);
      })

-- ---- on sheets

-- a call on the layout of a well-formed list
pub on-layout : (g : List Setting → Outcome) (xs : List Setting) → WellFormed xs → on_sheet g (layout xs) ≡ laid_out (g xs)
unfolding on_sheet
on-layout g xs ok = rw (layout-right xs ok, reads-back xs ok)

answer-layout : (m d : ℕ) (xs : List Setting) → WellFormed xs → answer_to m d (layout xs) ≡ (ask m d xs).0
answer-layout m d xs ok = ap (λ r. r.0) (on-layout (ask m d) xs ok)

pub answer-right : (m d : ℕ) (s : List ℕ) → right s ≡ true → answer_to m d s ≡ (ask m d (settings_of s)).0
unfolding on_sheet
answer-right m d s r = rw (r, answer_to)

module _ (m e d f : ℕ) (s : List ℕ) (bytes : Bytes s) (hm : m < 256 ^ 1) (hd : d < 256 ^ 4) (hf : f < 256 ^ 4) where
  refused-added : right s ≡ false → Added m e d f s (on_sheet (add m e d f) s).1
  unfolding on_sheet
  refused-added r =
      rw r
      (record {
        keeps_earlier = λ m' d' l. refl;
        keeps_others = λ m' d' o. refl;
        gives = λ a. let z : ◌≡◌ {A = List ℕ} (43 ∷ []) (0 ∷ []) = rw r at a in cc;
        stays-right = λ k. k;
      })

  right-added : right s ≡ true → Added m e d f s (on_sheet (add m e d f) s).1
  unfolding on_sheet
  right-added r =
      let xs = settings_of s in
      let ys = (add m e d f xs).1 in
      let ok = add-fine m e d f xs hm hd hf (read-fine s bytes r) in
      let same : (m' d' : ℕ) → (d' < d) ⊎ (m ≢ m') → answer_to m' d' (layout ys) ≡ answer_to m' d' s =
      (λ m' d' h. answer-layout m' d' ys ok ∙ keeps m e d f xs m' d' h ∙ sym (answer-right m' d' s r)) in
      rw r
      (record {
        keeps_earlier = λ m' d' l. same m' d' (inl l);
        keeps_others = λ m' d' o. same m' d' (inr (λ q. o (sym q)));
        gives = λ a. answer-layout m d ys ok ∙ given m e d f xs (rw r at a);
        stays-right = λ k. layout-right ys ok;
      })

  pub added : Added m e d f s (on_sheet (add m e d f) s).1
  added = by (right s) refl
    where
      by : (b : Bool) → right s ≡ b → Added m e d f s (on_sheet (add m e d f) s).1
      by false r = refused-added r
      by true r = right-added r

pub every-add : EveryAdd
every-add m e d f s bytes = added m e d f s (are-bytes s bytes)
