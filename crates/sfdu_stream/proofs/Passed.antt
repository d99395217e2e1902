-- A walk under way: what holds each time its loop comes round. Assumes nothing.
use Prim.Native.Nat.{ℕ, ◌+◌, ◌≤◌}
use native.Mathlib.Omega.{arith}
use mathlib.Core.Bool.{true, false}
use mathlib.Core.List.{List, ◌∷◌}
use mathlib.Core.Path.{◌≡◌, sym, ap, ◌∙◌}
use lib.ListN.{length}
use Rattle.sfdu_stream.specs.Walk.{whole, past}
use Rattle.sfdu_stream.specs.inner.Refusal.{refusal}
use Rattle.sfdu_stream.specs.Listing.{Listing, stopped, walk_from, walked}
use Rattle.sfdu_stream.proofs.Places.{whole-record}
use Rattle.sfdu_stream.proofs.Listings.{goes_on_lem, stops}

-- The answer of a listing before which `count` records were passed.
abbrev counted : ℕ → Listing → List ℕ
counted count l = (count + length l.entries) ∷ l.stop ∷ l.why

pub record Passed (s : List ℕ) (at count : ℕ) : Type 0 where
  pub rest : walked s ≡ counted count (walk_from s at)
  pub few : count ≤ at
  pub within : at ≤ length s

pub begins : (s : List ℕ) → Passed s 0 0
unfolding walked
begins s =
    let z : length (walk_from s 0).entries ≡ 0 + length (walk_from s 0).entries = omega arith in
    record { rest = ap (λ (n : ℕ). n ∷ (walk_from s 0).stop ∷ (walk_from s 0).why) z; few = omega arith; within = omega arith }

module _ (s : List ℕ) (at count : ℕ) (p : Passed s at count) where
  pub passes : whole s at ≡ true → Passed s (past s at) (count + 1)
  passes e =
      let w = whole-record s at e in
      let l = walk_from s (past s at) in
      record {
        rest = p.rest ∙ ap (counted count) (goes_on_lem s at e) ∙ ap (λ (n : ℕ). n ∷ l.stop ∷ l.why) (omega arith);
        few = omega arith;
        within = w.within;
      }

  pub finished : (why : List ℕ) → whole s at ≡ false → refusal s at ≡ why → count ∷ at ∷ why ≡ walked s
  finished why e q =
      let z : count + 0 ≡ count = omega arith in
      let l : walk_from s at ≡ stopped at why = stops s at e ∙ ap (stopped at) q in
      sym (p.rest ∙ ap (counted count) l ∙ ap (λ (n : ℕ). n ∷ at ∷ why) z)
