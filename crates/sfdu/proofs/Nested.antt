-- The blocks of an accepted slice nest and fill it; 18 is never given. Assumes nothing.
use Prim.Native.Nat.{ℕ, ◌≤◌, ◌<◌}
use native.Mathlib.Omega.{arith}
use mathlib.Core.Bool.{true, false, false≢true}
use mathlib.Core.List.{List, [], ◌∷◌}
use mathlib.Core.Path.{◌≡◌, refl, sym, ap, ◌∙◌}
use borrow.Author.Tests.{le-ltb}
use lib.Dec.{lit<}
use Rattle.refusals.specs.Judge.{◌when◌, judge, answered}
use Rattle.refusals.proofs.Judged.{AllGive, Outcome, none, first, outcome, none-judge, none-applies, first-judge, first_gives, judge-append}
use Rattle.sfdu.specs.Nesting.{aggregation_at, primary_at, secondary_at, aggregation_length, primary_length, secondary_length}
use Rattle.sfdu.specs.Read.{kind_of, block_length, ◌giving◌, read_rules, accepts, record_words, read_one}
use Rattle.sfdu.specs.Nested.{
  Block,
  aggregation,
  primary,
  secondary,
  data_block,
  start_of,
  enclosing_end,
  block_end,
  AcceptedNest,
  some_ends_past,
  read_with18,
  Never18,
}
use Rattle.sfdu.proofs.Placed.{placed}
use Rattle.sfdu.proofs.Accepted.{Accepted, accepted}

pub accepted-nest : AcceptedNest
unfolding block_end
accepted-nest s e =
    let k = kind_of s in
    let a : Accepted s = accepted s e in
    let p = placed k in
    let x : block_length s aggregation_at ≡ aggregation_length k = a.aggregation.size_is in
    let y : block_length s primary_at ≡ primary_length = a.primary.size_is in
    let z : block_length s secondary_at ≡ secondary_length k = a.secondary.size_is in
    record {
      within = λ b. by-block b (omega arith) (omega arith) (omega arith) (omega arith);
      behind_label = refl;
      behind_aggregation = omega arith;
      to_the_last_byte = omega arith;
      from_the_first = refl;
      behind_primary = omega arith;
      fill_aggregation = omega arith;
    }
  where
    Ends : Block → Type 0
    Ends b = block_end s (start_of (kind_of s) b) ≤ enclosing_end s b

    by-block : (b : Block) → Ends aggregation → Ends primary → Ends secondary → Ends data_block → Ends b
    by-block aggregation h i j l = h
    by-block primary h i j l = i
    by-block secondary h i j l = j
    by-block data_block h i j l = l

none-ends-past : (s : List ℕ) → accepts s ≡ true → some_ends_past (kind_of s) s ≡ false
none-ends-past s e =
    let w = (accepted-nest s e).within in
    rw (le-ltb _ _ (w aggregation), le-ltb _ _ (w primary), le-ltb _ _ (w secondary), le-ltb _ _ (w data_block))

-- No rule that is left gives 18, and an accepted answer begins with 0.
not-18 : (s rest : List ℕ) → read_one s ≡ 18 ∷ rest → ⊥
unfolding read_one
not-18 s rest e = by (outcome (read_rules s))
  where
    P : List ℕ → Type 0
    P w = w ≡ 18 ∷ rest → ⊥

    other : (n m : ℕ) → n < 18 → P (n ∷ m ∷ [])
    other n m h e = let z : n ≡ 18 = cc in omega arith

    all : AllGive P (read_rules s)
    all = (
      other _ _ (lit< tt),
      (
        other _ _ (lit< tt),
        (
          other _ _ (lit< tt),
          (
            other _ _ (lit< tt),
            (
              other _ _ (lit< tt),
              (
                other _ _ (lit< tt),
                (
                  other _ _ (lit< tt),
                  (
                    other _ _ (lit< tt),
                    (
                      other _ _ (lit< tt),
                      (
                        other _ _ (lit< tt),
                        (
                          other _ _ (lit< tt),
                          (other _ _ (lit< tt), (other _ _ (lit< tt), (other _ _ (lit< tt), tt))),
                        ),
                      ),
                    ),
                  ),
                ),
              ),
            ),
          ),
        ),
      ),
    )

    by : Outcome (read_rules s) → ⊥
    by (none n) = false≢true (cc (none-judge (λ given. given) (read_rules s) (record_words (kind_of s) s) n, e))
    by (first g f) = first_gives P all f (sym (first-judge (λ given. given) (record_words (kind_of s) s) f) ∙ e)

without : (m : ℕ) (s : List ℕ) → read_with18 m s ≡ read_one s
unfolding read_with18 read_one accepts judge
without m s =
    rw (judge-append (λ given. given) (read_rules s) ((18 giving m when some_ends_past (kind_of s) s) ∷ []) (record_words (kind_of s) s))
    (by (outcome (read_rules s)))
  where
    w : List ℕ
    w = record_words (kind_of s) s

    last : List ℕ
    last = answered ((18 giving m when some_ends_past (kind_of s) s) ∷ []) w

    by : Outcome (read_rules s) → answered (read_rules s) last ≡ answered (read_rules s) w
    by (none n) = ap (λ (x : List ℕ). answered (read_rules s) x) (rw (none-ends-past s (none-applies (read_rules s) n)))
    by (first g f) = first-judge (λ given. given) last f ∙ sym (first-judge (λ given. given) w f)

pub never-18 : Never18
never-18 m s = record { never = λ rest e. not-18 s rest (sym (without m s) ∙ e); same = without m s }
