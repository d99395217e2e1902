-- The refusals of the record at the start of s, in the program's order: what is known of s by what is given; and what read one's
-- answer says of it, where s is no longer than the window. Assumes nothing.
use Prim.Native.Nat.{ℕ, ◌≤◌, ◌<◌}
use native.Mathlib.Omega.{arith}
use mathlib.Core.Bool.{Bool, true, false, not, cond, ◌&&◌, false≢true, and-true}
use mathlib.Core.List.{List, [], ◌∷◌, ◌++◌}
use mathlib.Core.Logic.{◌≢◌}
use mathlib.Core.Path.{◌≡◌, refl, sym, ap, ◌∙◌}
use borrow.Author.Tests.{ltb-true, ltb-false, lt-ltb, le-ltb, le-leb, eq-eqb, ne_eqb, eqb-true, eqb-false, not-true, not-false}
use lib.Dec.{eqb, ltb, lit<}
use lib.ListN.{length, get_or}
use Rattle.laws.proofs.Bools.{and_split}
use Rattle.refusals.specs.Judge.{Rule, judge, answered}
use Rattle.refusals.proofs.Judged.{
  NoneHolds,
  AllGive,
  First,
  here,
  Outcome,
  none,
  first,
  outcome,
  none-judge,
  first-judge,
  first_gives,
  none-applies,
  none-hold,
  one-first,
}
use Rattle.sfdu.specs.declared.Kind.{Kind}
use Rattle.sfdu.specs.Nesting.{label_size, data_value_at}
use Rattle.sfdu.specs.Read.{
  kind_of,
  record_length,
  length_in_range,
  tag_rules,
  range_rule,
  cut_rule,
  header_rules,
  data_rules,
  read_rules,
  is_count,
  in_stream,
  accepts,
  record_words,
  read_one,
}
use Rattle.sfdu.proofs.Placed.{placed}
use Rattle.sfdu.proofs.Accepted.{in-range, record-length}
use Rattle.sfdu_headers.specs.Fields.{record_number}
use Rattle.sfdu_stream.specs.Walk.{whole_by, full, refusal_by}
use Rattle.streaming.specs.Window.{over_rule, is_long, is_over, telling, stop_of}
use Rattle.sfdu_list_text.specs.Listing.{buffer_size, list_rules, or_zero}
use Rattle.sfdu_list_text.specs.inner.Stops.{whole, stop_words}
use Rattle.sfdu_list_text.specs.Window.{gives_count, cut_short}
use Rattle.sfdu_list_text.specs.inner.Window.{Record, More, Stop, stop_found, found_at, found_in}
use Rattle.sfdu_list_text.proofs.Rows.{skip, pass, first-front, first-behind, Stands, before, there, behind, stands}

-- ---- the rules between 1 and 6, and behind 6

abbrev pub front : List ℕ → List (Rule (List ℕ))
front s = tag_rules s ++ (range_rule (kind_of s) s ∷ [])

abbrev pub back : Kind → List ℕ → List (Rule (List ℕ))
back k s = header_rules k s ++ data_rules k s

-- None of them gives a count of bytes.
abbrev NoCount : List ℕ → Type 0
NoCount w = gives_count w ≡ false

front-offsets : (s : List ℕ) → AllGive NoCount (front s)
unfolding is_count
front-offsets s = (refl, (refl, (refl, (refl, tt))))

over-offset : (s : List ℕ) → AllGive NoCount (front s ++ over_rule s ∷ [])
unfolding is_count
over-offset s = (refl, (refl, (refl, (refl, (refl, tt)))))

back-offsets : (s : List ℕ) → AllGive NoCount (back (kind_of s) s)
unfolding is_count
back-offsets s = (refl, (refl, (refl, (refl, (refl, (refl, (refl, (refl, tt))))))))

-- ---- by what is given

-- What the first rule that applies gives, and nothing where none does.
unfoldable pub refusal : List ℕ → List ℕ
refusal s = answered (list_rules s) []

pub refusal_is : (s : List ℕ) {g : List ℕ} → First (list_rules s) g → refusal s ≡ g
unfolding refusal
refusal_is s f = first-judge (λ given. given) [] f

pub not-whole : (s : List ℕ) {g : List ℕ} → First (list_rules s) g → whole s ≡ false
unfolding whole whole_by
not-whole s f = first-judge (λ given. false) true f

-- Why the listing stops, by what is given.
pub stop-words : (place : ℕ) (s : List ℕ) {g : List ℕ} → First (list_rules s) g
    → stop_words place s ≡ cond (eqb (length s) 0) (0 ∷ 0 ∷ []) (or_zero (in_stream place g))
unfolding stop_words refusal_by
stop-words place s {g} f = rw (first-judge (in_stream place) full f) (by (eqb (length s) 0))
  where
    by : (b : Bool) → or_zero (cond b (0 ∷ 0 ∷ []) (in_stream place g)) ≡ cond b (0 ∷ 0 ∷ []) (or_zero (in_stream place g))
    by true = refl
    by false = refl

pub short-refused : (s : List ℕ) → length s < label_size → First (list_rules s) (1 ∷ length s ∷ [])
short-refused s h = rw (lt-ltb (length s) label_size h) here

-- where s is not cut short, there is a label
pub labelled : (s : List ℕ) → cut_short s ≡ false → label_size ≤ length s
unfolding cut_short refusal is_count
labelled s h = by (ltb (length s) label_size) refl
  where
    by : (b : Bool) → ltb (length s) label_size ≡ b → label_size ≤ length s
    by true e = absurd (false≢true (sym h ∙ ap gives_count (refusal_is s (short-refused s (ltb-true _ _ e)))))
    by false e = ltb-false _ _ e

-- A label whose length is in the kind's range says that the headers are within the record.
pub headers-within : (s : List ℕ) → length_in_range (kind_of s) s ≡ true → data_value_at (kind_of s) ≤ record_length s
headers-within s e =
    let r = in-range (kind_of s) s e in
    let p = placed (kind_of s) in
    omega (arith, record-length s _ refl)

-- A whole record: its headers are within it, and it is within s and no longer than the window.
pub record Whole (s : List ℕ) : Type 0 where
  pub headers : data_value_at (kind_of s) ≤ record_length s
  pub least : 120 ≤ record_length s
  pub within : record_length s ≤ length s
  pub most : record_length s ≤ buffer_size

pub whole-record : (s : List ℕ) → whole s ≡ true → Whole s
unfolding whole whole_by
whole-record s e =
    let h = none-hold (list_rules s) e in
    let d = headers-within s (not-false _ h.1.1.1.1.0) in
    let p = placed (kind_of s) in
    record {
      headers = d;
      least = omega arith;
      within = ltb-false _ _ h.1.1.1.1.1.1.0;
      most = ltb-false _ _ h.1.1.1.1.1.0;
    }

none-refused : (s : List ℕ) → NoneHolds (list_rules s) → refusal s ≡ []
unfolding refusal
none-refused s n = none-judge (λ given. given) (list_rules s) [] n

pub whole-refusal : (s : List ℕ) → whole s ≡ true → refusal s ≡ []
unfolding whole whole_by
whole-refusal s e = none-refused s (none-hold (list_rules s) e)

-- Where a record is refused, the first rule that applies gives the refusal.
pub refused-first : (s : List ℕ) → whole s ≡ false → First (list_rules s) (refusal s)
unfolding whole whole_by
refused-first s e = let f = one-first (list_rules s) e in rw (refusal_is s f.1) f.1

pub refused-something : (s : List ℕ) → whole s ≡ false → refusal s ≡ [] → ⊥
refused-something s e r = omega (arith, first_gives (λ w. 0 < length w) some (refused-first s e), ap length r)
  where
    some : AllGive (λ w. 0 < length w) (list_rules s)
    some = (
      lit< tt,
      (
        lit< tt,
        (
          lit< tt,
          (
            lit< tt,
            (
              lit< tt,
              (
                lit< tt,
                (lit< tt, (lit< tt, (lit< tt, (lit< tt, (lit< tt, (lit< tt, (lit< tt, (lit< tt, (lit< tt, tt))))))))),
              ),
            ),
          ),
        ),
      ),
    )

-- Each rule gives something: a record is whole where nothing is given, and only there.
pub nothing-whole : (s : List ℕ) → refusal s ≡ [] → whole s ≡ true
nothing-whole s e = by (whole s) refl
  where
    by : (b : Bool) → whole s ≡ b → whole s ≡ true
    by true w = w
    by false w = absurd (refused-something s w e)

pub something-refused : (s : List ℕ) → (refusal s ≡ [] → ⊥) → whole s ≡ false
something-refused s h = by (whole s) refl
  where
    by : (b : Bool) → whole s ≡ b → whole s ≡ false
    by true w = absurd (h (whole-refusal s w))
    by false w = w

-- Where s is cut short, it is shorter than the window: more of the stream can be read behind it.
pub cut-room : (s : List ℕ) → cut_short s ≡ true → length s < buffer_size
unfolding cut_short refusal
cut-room s e = by (ltb (length s) label_size) refl
  where
    counted : {g : List ℕ} → NoCount g → refusal s ≡ g → ⊥
    counted n r = false≢true (sym n ∙ ap gives_count (sym r) ∙ e)

    at-6 : {g : List ℕ} → refusal s ≡ g
        → Stands (front s ++ over_rule s ∷ []) (6 ∷ length s ∷ []) (ltb (length s) (record_length s)) (back (kind_of s) s) g → length s < buffer_size
    at-6 r (before f) = absurd (counted (first_gives NoCount (over-offset s) f) r)
    at-6 r (behind n c f) = absurd (counted (first_gives NoCount (back-offsets s) f) r)
    at-6 r (there n c g) =
        let cut : length s < record_length s = ltb-true _ _ c in
        let within : record_length s ≤ buffer_size = ltb-false _ _ n.1.1.1.1.0 in
        omega arith

    by : (b : Bool) → ltb (length s) label_size ≡ b → length s < buffer_size
    by true t = let l : length s < label_size = ltb-true _ _ t in omega arith
    by false t = of (outcome (list_rules s))
      where
        of : Outcome (list_rules s) → length s < buffer_size
        of (none n) = absurd (counted refl (none-refused s n))
        of (first g f) = at-6 (refusal_is s f) (stands (front s ++ over_rule s ∷ []) _ _ (back (kind_of s) s) g (skip t f))

-- ---- by what read one says

read_short : (s : List ℕ) → length s < label_size → read_one s ≡ 1 ∷ length s ∷ []
unfolding read_one judge
read_short s h = rw (lt-ltb (length s) label_size h)

-- where read one's refusal is not 1, there is a label
pub read-labelled : (s : List ℕ) (n m : ℕ) → n ∷ m ∷ [] ≡ read_one s → n ≢ 1 → label_size ≤ length s
read-labelled s n m e h = by (ltb (length s) label_size) refl
  where
    by : (b : Bool) → ltb (length s) label_size ≡ b → label_size ≤ length s
    by true t = let q : n ≡ 1 = cc (read_short s (ltb-true _ _ t)) in absurd (h q)
    by false t = ltb-false _ _ t

-- Read one's two numbers are what its first rule that applies gives.
read_first : (s : List ℕ) (n m : ℕ) → n ∷ m ∷ [] ≡ read_one s → First (read_rules s) (n ∷ m ∷ [])
unfolding read_one
read_first s n m e = by (outcome (read_rules s))
  where
    by : Outcome (read_rules s) → First (read_rules s) (n ∷ m ∷ [])
    by (none h) =
        absurd (false≢true (cc (none-judge (λ given. given) (read_rules s) (record_words (kind_of s) s) h, e)))
    by (first g f) = rw (e ∙ first-judge (λ given. given) (record_words (kind_of s) s) f) f

module _ (s : List ℕ) (fits : length s ≤ buffer_size) (n m : ℕ) (e : n ∷ m ∷ [] ≡ read_one s) where
  -- A refusal that is not 6 is the listing's.
  pub refused-same : n ≢ 6 → First (list_rules s) (n ∷ m ∷ [])
  refused-same other = by (ltb (length s) label_size) refl
    where
      of : ltb (length s) label_size ≡ false
          → Stands (front s) (6 ∷ length s ∷ []) (ltb (length s) (record_length s)) (back (kind_of s) s) (n ∷ m ∷ [])
          → First (list_rules s) (n ∷ m ∷ [])
      of t (before f) = pass t (first-front _ f)
      of t (there h c g) = let q : n ≡ 6 = cc in absurd (other q)
      of t (behind h c f) =
          let whole : record_length s ≤ length s = ltb-false _ _ c in
          let within : ltb buffer_size (record_length s) ≡ false = le-ltb buffer_size (record_length s) (omega arith) in
          pass t (first-behind (front s) h (pass within (pass c f)))

      by : (b : Bool) → ltb (length s) label_size ≡ b → First (list_rules s) (n ∷ m ∷ [])
      by true t = let h = ltb-true _ _ t in rw (e ∙ read_short s h) (short-refused s h)
      by false t = of t (stands (front s) _ _ (back (kind_of s) s) _ (skip t (read_first s n m e)))

  -- For 6 it is 17 where the record is over the window.
  pub refused-cut : n ≡ 6 → (over : Bool) → ltb buffer_size (record_length s) ≡ over → First (list_rules s) (cond over (17 ∷ []) (n ∷ m ∷ []))
  unfolding is_count
  refused-cut six over o =
      let t : ltb (length s) label_size ≡ false = le-ltb _ _ (read-labelled s n m e (λ q. omega arith)) in
      pass t (of (stands (front s) _ _ (back (kind_of s) s) _ (skip t (read_first s n m e))))
    where
      counted : is_count n ≡ false → ⊥
      counted q = false≢true (sym q ∙ rw six)

      last : (b : Bool) → ltb buffer_size (record_length s) ≡ b → ltb (length s) (record_length s) ≡ true → n ∷ m ∷ [] ≡ 6 ∷ length s ∷ []
          → First (over_rule s ∷ cut_rule s ∷ back (kind_of s) s) (cond b (17 ∷ []) (n ∷ m ∷ []))
      last true q c g = rw q here
      last false q c g = pass q (rw (c, g) here)

      of : Stands (front s) (6 ∷ length s ∷ []) (ltb (length s) (record_length s)) (back (kind_of s) s) (n ∷ m ∷ [])
          → First (front s ++ over_rule s ∷ cut_rule s ∷ back (kind_of s) s) (cond over (17 ∷ []) (n ∷ m ∷ []))
      of (before f) = absurd (counted (first_gives NoCount (front-offsets s) f))
      of (there h c g) = first-behind (front s) h (last over o c g)
      of (behind h c f) = absurd (counted (first_gives NoCount (back-offsets s) f))

-- The whole records are those that read one accepts, but for those over the window.
pub whole-accepted : (s : List ℕ) → whole s ≡ true → accepts s ≡ true
unfolding whole whole_by accepts
whole-accepted s e =
    let h = none-hold (list_rules s) e in
    none-applies (read_rules s) (h.0, (h.1.0, (h.1.1.0, (h.1.1.1.0, (h.1.1.1.1.0, h.1.1.1.1.1.1)))))

pub accepted-whole : (s : List ℕ) → accepts s ≡ true → record_length s ≤ buffer_size → whole s ≡ true
unfolding whole whole_by accepts
accepted-whole s a fits =
    let h = none-hold (read_rules s) a in
    let o : ltb buffer_size (record_length s) ≡ false = le-ltb buffer_size (record_length s) fits in
    none-applies (list_rules s) (h.0, (h.1.0, (h.1.1.0, (h.1.1.1.0, (h.1.1.1.1.0, (o, h.1.1.1.1.1))))))

-- ---- what the window says

module _ (place : ℕ) (s : List ℕ) (last : Bool) (g : List ℕ) (f : First (list_rules s) g) where
  stops : gives_count g ≡ false → stop_found (or_zero (in_stream place g)) ≡ found_in place s last
  unfolding found_in found_at cut_short refusal
  stops c =
      let r = refusal_is s f in
      let cut : cut_short s ≡ false = rw r c in
      let l = labelled s cut in
      rw (r, c, not-whole s f, stop-words place s f, ne_eqb (length s) 0 (λ q. omega arith))

  ends : last ≡ true → length s ≢ 0 → stop_found (or_zero (in_stream place g)) ≡ found_in place s last
  unfolding found_in found_at cut_short refusal
  ends t l = rw (t, refusal_is s f, not-whole s f, stop-words place s f, ne_eqb (length s) 0 l) (by (gives_count g))
    where
      by : (b : Bool) → stop_found (or_zero (in_stream place g)) ≡ cond (b && false) More (stop_found (or_zero (in_stream place g)))
      by true = refl
      by false = refl

  waits : last ≡ false → gives_count g ≡ true → More ≡ found_in place s last
  unfolding found_in cut_short refusal
  waits t c = rw (t, refusal_is s f, c)

at-end : (place : ℕ) (s : List ℕ) (last : Bool) → last ≡ true → length s ≡ 0 → Stop 0 0 ≡ found_in place s last
unfolding found_in found_at cut_short refusal is_count
at-end place s last t e =
    let f = short-refused s (omega arith) in
    rw (t, refusal_is s f, not-whole s f, stop-words place s f, eq-eqb (length s) 0 e)

pub records : (place : ℕ) (s : List ℕ) (last : Bool) (k : Kind) (n m : ℕ) → whole s ≡ true → k ≡ kind_of s → n ≡ record_length s
    → m ≡ record_number k s → Record k n m ≡ found_in place s last
unfolding found_in found_at cut_short refusal
records place s last k n m w p q r = rw (whole-refusal s w, w, r, p, q)

-- Read one refuses with n and m. The listing's refusal is the same, or 17, and `stop_of` tells it.
module _ (s : List ℕ) (fits : length s ≤ buffer_size) (n m : ℕ) (e : n ∷ m ∷ [] ≡ read_one s) where
  given : List ℕ
  given = cond (is_over s (n ∷ m ∷ [])) (17 ∷ []) (n ∷ m ∷ [])

  given-first : First (list_rules s) given
  unfolding given
  given-first = by (eqb n 6) refl
    where
      by : (b : Bool) → eqb n 6 ≡ b → First (list_rules s) (cond (b && is_long s) (17 ∷ []) (n ∷ m ∷ []))
      by true six =
          let n6 : n ≡ 6 = eqb-true n 6 six in
          let l = read-labelled s n m e (λ q. omega arith) in
          rw (le-leb label_size (length s) l) (refused-cut s fits n m e n6 (ltb buffer_size (record_length s)) refl)
      by false other = refused-same s fits n m e (eqb-false n 6 other)

  module _ (place : ℕ) where
    told : stop_found (or_zero (in_stream place given)) ≡ Stop (stop_of place s (n ∷ m ∷ [])).number (stop_of place s (n ∷ m ∷ [])).beside
    unfolding given in_stream stop_of
    told = by (is_over s (n ∷ m ∷ []))
      where
        by : (b : Bool) → stop_found (or_zero (in_stream place (cond b (17 ∷ []) (n ∷ m ∷ []))))
            ≡ Stop (cond b (record { number = 17; beside = 0 }) (telling (in_stream place (n ∷ m ∷ [])))).number
            (cond b (record { number = 17; beside = 0 }) (telling (in_stream place (n ∷ m ∷ [])))).beside
        by true = refl
        by false = refl

    counted : is_count (stop_of place s (n ∷ m ∷ [])).number ≡ gives_count given
    unfolding given in_stream stop_of is_count
    counted = by (is_over s (n ∷ m ∷ []))
      where
        by : (b : Bool) → is_count (cond b (record { number = 17; beside = 0 }) (telling (in_stream place (n ∷ m ∷ [])))).number
            ≡ gives_count (cond b (17 ∷ []) (n ∷ m ∷ []))
        by true = refl
        by false = refl

    module _ (last : Bool) where
      pub stop-waits : (is_count (stop_of place s (n ∷ m ∷ [])).number && not last) ≡ true → More ≡ found_in place s last
      stop-waits h =
          let both = and_split (is_count (stop_of place s (n ∷ m ∷ [])).number) (not last) h in
          waits place s last given given-first (not-true last both.1) (sym counted ∙ both.0)

      module _ (known : (is_count (stop_of place s (n ∷ m ∷ [])).number && not last) ≡ false) where
        pub stop-end : length s ≡ 0 → Stop 0 0 ≡ found_in place s last
        unfolding is_count
        stop-end empty =
            let given-1 : given ≡ 1 ∷ length s ∷ [] = sym (refusal_is s given-first) ∙ refusal_is s (short-refused s (omega arith)) in
            let counts : is_count (stop_of place s (n ∷ m ∷ [])).number ≡ true = counted ∙ ap gives_count given-1 in
            at-end place s last (not-false last (rw counts at known)) empty

        pub stop-told : length s ≢ 0 → Stop (stop_of place s (n ∷ m ∷ [])).number (stop_of place s (n ∷ m ∷ [])).beside ≡ found_in place s last
        stop-told some = sym told ∙ by last refl
          where
            by : (b : Bool) → last ≡ b → stop_found (or_zero (in_stream place given)) ≡ found_in place s last
            by true l = ends place s last given given-first l some
            by false l =
                let offset : is_count (stop_of place s (n ∷ m ∷ [])).number ≡ false = sym (and-true _) ∙ rw l at known in
                stops place s last given given-first (sym counted ∙ offset)

-- ---- what is found says

-- Where a listing stops it says two numbers.
two-words : (place : ℕ) (s : List ℕ) → whole s ≡ false → length (stop_words place s) ≡ 2
unfolding in_stream
two-words place s e =
    let f = refused-first s e in
    rw (stop-words place s f) (by (eqb (length s) 0) (refusal s) (first_gives Two all f))
  where
    Two : List ℕ → Type 0
    Two w = length (or_zero (in_stream place w)) ≡ 2

    all : AllGive Two (list_rules s)
    all = (refl, (refl, (refl, (refl, (refl, (refl, (refl, (refl, (refl, (refl, (refl, (refl, (refl, (refl, (refl, tt)))))))))))))))

    by : (b : Bool) (g : List ℕ) → Two g → length (cond b (0 ∷ 0 ∷ []) (or_zero (in_stream place g))) ≡ 2
    by true g h = refl
    by false g h = h

both_words : (words : List ℕ) → length words ≡ 2 → get_or words 0 0 ∷ get_or words 1 0 ∷ [] ≡ words
both_words [] e = absurd (omega arith)
both_words (n ∷ []) e = absurd (omega arith)
both_words (n ∷ m ∷ []) e = refl
both_words (n ∷ m ∷ k ∷ rest) e = absurd (omega arith)

pub record FoundRecord (s : List ℕ) (k : Kind) (n m : ℕ) : Type 0 where
  pub is_whole : whole s ≡ true
  pub kind : k ≡ kind_of s
  pub size : n ≡ record_length s
  pub number : m ≡ record_number (kind_of s) s

pub record FoundStop (place : ℕ) (s : List ℕ) (last : Bool) (n m : ℕ) : Type 0 where
  pub none : whole s ≡ false
  pub known : (cut_short s && not last) ≡ false
  pub words : n ∷ m ∷ [] ≡ stop_words place s

module _ (place : ℕ) (s : List ℕ) (last : Bool) where
  pub found-record : (k : Kind) (n m : ℕ) → Record k n m ≡ found_in place s last → FoundRecord s k n m
  unfolding found_in found_at
  found-record k n m e = by (cut_short s && not last) (whole s) refl refl
    where
      by : (b w : Bool) → (cut_short s && not last) ≡ b → whole s ≡ w → FoundRecord s k n m
      by true w p q = let z : Record k n m ≡ More = e ∙ rw p in absurd (false≢true cc)
      by false true p q =
          let f : Record k n m ≡ Record (kind_of s) (record_length s) (record_number (kind_of s) s) = e ∙ rw (p, q) in
          record { is_whole = q; kind = cc; size = cc; number = cc }
      by false false p q = let z : Record k n m ≡ stop_found (stop_words place s) = e ∙ rw (p, q) in absurd (false≢true cc)

  pub found-stop : (n m : ℕ) → Stop n m ≡ found_in place s last → FoundStop place s last n m
  unfolding found_in found_at
  found-stop n m e = by (cut_short s && not last) (whole s) refl refl
    where
      by : (b w : Bool) → (cut_short s && not last) ≡ b → whole s ≡ w → FoundStop place s last n m
      by true w p q = let z : Stop n m ≡ More = e ∙ rw p in absurd (false≢true cc)
      by false true p q =
          let z : Stop n m ≡ Record (kind_of s) (record_length s) (record_number (kind_of s) s) = e ∙ rw (p, q) in
          absurd (false≢true cc)
      by false false p q =
          let z : Stop n m ≡ stop_found (stop_words place s) = e ∙ rw (p, q) in
          let first : n ≡ get_or (stop_words place s) 0 0 = cc in
          let second : m ≡ get_or (stop_words place s) 1 0 = cc in
          record { none = q; known = p; words = rw (first, second) (both_words (stop_words place s) (two-words place s q)) }

  pub found-more : More ≡ found_in place s last → (last ≡ false) × (cut_short s ≡ true)
  unfolding found_in found_at
  found-more e = by (cut_short s) last (whole s) refl refl refl
    where
      by : (b l w : Bool) → cut_short s ≡ b → last ≡ l → whole s ≡ w → (l ≡ false) × (b ≡ true)
      by true false w p q r = (refl, refl)
      by true true true p q r = let z : More ≡ Record (kind_of s) (record_length s) (record_number (kind_of s) s) = e ∙ rw (p, q, r) in absurd (false≢true cc)
      by true true false p q r = let z : More ≡ stop_found (stop_words place s) = e ∙ rw (p, q, r) in absurd (false≢true cc)
      by false l true p q r = let z : More ≡ Record (kind_of s) (record_length s) (record_number (kind_of s) s) = e ∙ rw (p, r) in absurd (false≢true cc)
      by false l false p q r = let z : More ≡ stop_found (stop_words place s) = e ∙ rw (p, r) in absurd (false≢true cc)
