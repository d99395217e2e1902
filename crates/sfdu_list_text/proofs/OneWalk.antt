-- The laws of `specs/OneWalk.antt`. Assumes nothing.
use Prim.Native.Nat.{ℕ, zero, suc, ◌+◌, ◌≤◌, ◌<◌}
use native.Mathlib.Omega.{arith}
use mathlib.Core.Bool.{Bool, true, false, false≢true}
use mathlib.Core.List.{List, [], ◌∷◌, ◌++◌}
use mathlib.Core.Logic.{◌⊎◌, inl, inr}
use mathlib.Core.Path.{◌≡◌, refl, sym, ap, subst, ◌∙◌}
use borrow.Author.Tests.{ltb-true, ltb-false, ne_eqb}
use lib.Dec.{ltb}
use lib.ListN.{length, drop}
use lib.Seq.{drop-drop}
use Rattle.laws.proofs.Bools.{and_split}
use Rattle.refusals.specs.Judge.{judge, none_applies}
use Rattle.refusals.proofs.Judged.{NoneHolds, First, here, none-hold, none-applies, first-judge}
use Rattle.sfdu.specs.Nesting.{label_size}
use Rattle.sfdu.specs.Read.{kind_of, record_length, cut_rule, read_rules, accepts, in_stream, read_one}
use Rattle.sfdu.proofs.Accepted.{Reads, accepted-one, refused-one, reads}
use Rattle.sfdu_stream.specs.declared.Entry.{Entry}
use Rattle.sfdu_stream.specs.Walk.{whole_by, full, refusal_by, whole, past}
use Rattle.sfdu_stream.specs.inner.Refusal.{refusal}
use Rattle.sfdu_stream.specs.Listing.{Listing as Walk, entry_of, entry_at, stopped, prepend, walk_by, walk_from}
use Rattle.sfdu_stream.specs.Laws.{StopsAtEnd, StopsRefused}
use Rattle.sfdu_stream.proofs.Places.{whole-record}
use Rattle.sfdu_stream.proofs.Laws.{walk-right}
use Rattle.sfdu_stream.proofs.Listings.{goes_by, stops-by, goes_on_lem, stops}
use Rattle.sfdu_list_text.specs.Text.{heading}
use Rattle.sfdu_list_text.specs.inner.Stops as Listed
use Rattle.streaming.specs.Window.{over_rule}
use Rattle.sfdu_list_text.specs.Listing.{buffer_size, list_rules, text_of, lines_from, listing}
use Rattle.sfdu_list_text.specs.OneWalk.{program_walk, rules_to5, over, over_at, EveryStream, AllFit, WhereNoneIsOver}
use Rattle.sfdu_list_text.proofs.Judging.{back, whole-accepted}
use Rattle.sfdu_list_text.proofs.Rows.{first-behind, agree}
use Rattle.sfdu_list_text.proofs.Streams.{list-bounded}

-- ---- one place: s is the stream from there on

module _ (s : List ℕ) where
  -- Over the buffer: 17.
  over-17 : (place : ℕ) → over s ≡ true → refusal_by list_rules place s ≡ 17 ∷ []
  unfolding over refusal_by in_stream
  over-17 place e =
      let b = and_split (none_applies (rules_to5 s)) (ltb buffer_size (record_length s)) e in
      let n = none-hold (rules_to5 s) b.0 in
      let first : First (list_rules s) (17 ∷ []) = first-behind (rules_to5 s) n (rw b.1 here) in
      let some : label_size ≤ length s = ltb-false _ _ n.0 in
      rw (ne_eqb (length s) 0 (λ z. omega arith), first-judge (in_stream place) full first)

  -- Not over it: both say the same.
  same-judged : over s ≡ false → {B : Type 0} (f : List ℕ → B) (answer : B) → judge f (list_rules s) answer ≡ judge f (read_rules s) answer
  unfolding over judge
  same-judged e f answer = agree f (rules_to5 s) answer (over_rule s ∷ cut_rule s ∷ back (kind_of s) s) (cut_rule s ∷ back (kind_of s) s) fits
    where
      fits : NoneHolds (rules_to5 s)
          → judge f (over_rule s ∷ cut_rule s ∷ back (kind_of s) s) answer ≡ judge f (cut_rule s ∷ back (kind_of s) s) answer
      fits n = let c : ltb buffer_size (record_length s) ≡ false = rw (none-applies (rules_to5 s) n) at e in rw c

  same_whole : over s ≡ false → whole_by list_rules s ≡ whole_by read_rules s
  unfolding whole_by
  same_whole e = same-judged e (λ given. false) true

  same-refusal : over s ≡ false → (place : ℕ) → refusal_by list_rules place s ≡ refusal_by read_rules place s
  unfolding refusal_by
  same-refusal e place = rw (same-judged e (in_stream place) full)

-- ---- from a place of the stream s on

unfoldable program_from : List ℕ → ℕ → Walk
program_from s at = walk_by list_rules at (drop at s)

record From (s : List ℕ) (at : ℕ) (w : Walk) : Type 0 where
  records : walk_from s at ≡ prepend w.entries (walk_from s w.stop)
  says-17 : over_at s w.stop ≡ true → w.why ≡ 17 ∷ []
  says-walk : over_at s w.stop ≡ false → w ≡ walk_from s at

module _ (s : List ℕ) (at : ℕ) where
  program-goes : whole_by list_rules (drop at s) ≡ true → program_from s at ≡ prepend (entry_at s at ∷ []) (program_from s (past s at))
  unfolding past entry_at program_from
  program-goes e = goes_by list_rules list-bounded at (drop at s) e ∙ rw drop-drop

  program-stops : whole_by list_rules (drop at s) ≡ false → program_from s at ≡ stopped at (refusal_by list_rules at (drop at s))
  unfolding program_from
  program-stops e = stops-by list_rules list-bounded at (drop at s) e

  -- A record that the program takes is the walk's too.
  taken : whole_by list_rules (drop at s) ≡ true → whole s at ≡ true
  unfolding Listed.whole whole whole_by accepts
  taken e = whole-accepted (drop at s) e

  further : whole_by list_rules (drop at s) ≡ true → (w : Walk) → From s (past s at) w → From s at (prepend (entry_at s at ∷ []) w)
  further e w f =
      let on = goes_on_lem s at (taken e) in
      record {
        records = on ∙ ap (prepend (entry_at s at ∷ [])) f.records;
        says-17 = f.says-17;
        says-walk = λ fits. ap (prepend (entry_at s at ∷ [])) (f.says-walk fits) ∙ sym on;
      }

  here-stopped : whole_by list_rules (drop at s) ≡ false → From s at (stopped at (refusal_by list_rules at (drop at s)))
  unfolding over_at whole refusal
  here-stopped e = record {
    records = refl;
    says-17 = λ o. over-17 (drop at s) at o;
    says-walk = λ fits.
        let none : whole s at ≡ false = sym (same_whole (drop at s) fits) ∙ e in
        ap (stopped at) (same-refusal (drop at s) fits at) ∙ sym (stops s at none);
  }

from : (bytes : ℕ) (s : List ℕ) (at : ℕ) → length s ≤ at + bytes → From s at (program_from s at)
from zero s at h = by (whole_by list_rules (drop at s)) refl
  where
    by : (b : Bool) → whole_by list_rules (drop at s) ≡ b → From s at (program_from s at)
    by true e = let w = whole-record s at (taken s at e) in absurd (omega arith)
    by false e = rw (program-stops s at e) (here-stopped s at e)
from (suc n) s at h = by (whole_by list_rules (drop at s)) refl (from n s (past s at))
  where
    by : (b : Bool) → whole_by list_rules (drop at s) ≡ b
        → (length s ≤ past s at + n → From s (past s at) (program_from s (past s at))) → From s at (program_from s at)
    by true e rest =
        let w = whole-record s at (taken s at e) in
        rw (program-goes s at e) (further s at e (program_from s (past s at)) (rest (omega arith)))
    by false e rest = rw (program-stops s at e) (here-stopped s at e)

-- A walk says two numbers where it stops.
two-numbers : (s : List ℕ) → length (walk_from s 0).why ≡ 2
unfolding whole whole_by accepts in_stream
two-numbers s = by (walk-right s).stops
  where
    of : (at : ℕ) → Reads (drop at s) → accepts (drop at s) ≡ false → length (in_stream at (read_one (drop at s))) ≡ 2
    of at (accepted-one a) e = cc
    of at (refused-one r) e = rw r.words

    by : StopsAtEnd s (walk_from s 0) ⊎ StopsRefused s (walk_from s 0) → length (walk_from s 0).why ≡ 2
    by (inl x) = rw x.1
    by (inr x) = rw x.2 (of (walk_from s 0).stop (reads (drop (walk_from s 0).stop s)) x.1)

pub every-stream : EveryStream
unfolding program_from
every-stream s =
    let f = from (length s) s 0 (omega arith) in
    record { records = f.records; says-17 = f.says-17; only_17 = λ e. by (over_at s (program_walk s).stop) refl e f.says-walk; says-walk = f.says-walk }
  where
    -- The walk's refusals have a number behind them, and 17 has none.
    by : (b : Bool) → over_at s (program_walk s).stop ≡ b → (program_walk s).why ≡ 17 ∷ []
        → (over_at s (program_walk s).stop ≡ false → program_walk s ≡ walk_from s 0) → over_at s (program_walk s).stop ≡ true
    by true o e same = o
    by false o e same =
        let why : (program_walk s).why ≡ (walk_from s 0).why = ap (λ (w : Walk). w.why) (same o) in
        absurd (omega (arith, ap length (sym e ∙ why), two-numbers s))

-- ---- where no record is over the buffer

fit-behind : (es fs : List Entry) → AllFit (es ++ fs) → AllFit fs
fit-behind [] fs h = h
fit-behind (e ∷ es) fs h = fit-behind es fs h.1

over-long : (s : List ℕ) (at : ℕ) → over_at s at ≡ true → buffer_size < (entry_at s at).length
unfolding over_at over entry_at entry_of
over-long s at o = ltb-true _ _ (and_split (none_applies (rules_to5 (drop at s))) (ltb buffer_size (record_length (drop at s))) o).1

-- The walk from a place where one stands over it passes that one, or stops there.
not-over : (s : List ℕ) (at : ℕ) → AllFit (walk_from s at).entries → over_at s (walk_from s at).stop ≡ false → over_at s at ≡ true → ⊥
not-over s at fit stop o = by (whole s at) refl
  where
    by : (b : Bool) → whole s at ≡ b → ⊥
    by true e =
        let first : AllFit (entry_at s at ∷ (walk_from s (past s at)).entries) = subst (λ (w : Walk). AllFit w.entries) (goes_on_lem s at e) fit in
        omega (arith, first.0, over-long s at o)
    by false e = false≢true (sym (subst (λ (w : Walk). over_at s w.stop ≡ false) (stops s at e) stop) ∙ o)

pub where-none-is-over : WhereNoneIsOver
unfolding listing lines_from
where-none-is-over s none =
    let same : program_walk s ≡ walk_from s 0 = by (over_at s (program_walk s).stop) refl in
    record { walk = same; text = ap (λ (x : Walk). heading ++ text_of x) same; numbers = two-numbers s }
  where
    by : (b : Bool) → over_at s (program_walk s).stop ≡ b → program_walk s ≡ walk_from s 0
    by false e = (every-stream s).says-walk e
    by true e =
        let r = (every-stream s).records in
        let at = (program_walk s).stop in
        let fit = fit-behind (program_walk s).entries (walk_from s at).entries (subst (λ (x : Walk). AllFit x.entries) r none.passed) in
        absurd (not-over s at fit (subst (λ (x : Walk). over_at s x.stop ≡ false) r none.stop) e)
