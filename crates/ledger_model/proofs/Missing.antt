-- Laws of the missing list. Assumes nothing.
use Rattle.std.proofs.Common.{◌≡◌, ℕ, zero, suc, ◌<◌, ◌≤◌, true, false, ltb, ◌⊎◌, List, [], ◌∷◌, map, length, take, sym, refl, ap, ◌∙◌, inl, inr, suc-le-suc}
use Rattle.std.proofs.Common.{zero-le, zero-lt-suc, arith, ltb-false, ltb-true}
use mathlib.Core.Bool.{false≢true}
use mathlib.Core.Option
use mathlib.Core.Option.{Option, none, some}
use mathlib.Core.List.Memᴰ
use mathlib.Core.List.{Memᴰ}
use Rattle.laws.proofs.Bools.{by_bool}
use Rattle.keys.specs.Key.{rsr_start}
use Rattle.keys.specs.Numbers.{modulus, is_number}
use Rattle.keys.proofs.Numbers.{telemetry-modulus, rsr-modulus}
use Rattle.ledger_model.specs.Positions.{row_length, position, position_number, Positions, has, size, any_ticked, missing, least}
use Rattle.ledger_model.specs.Book.{free, row}
use Rattle.ledger_model.specs.Counts.{lowest_number}
use Rattle.ledger_model.specs.Missing.{positions_of, missing_numbers, AsReported, ExactlyMissing, most_missing, LongEnough}
use Rattle.ledger_model.proofs.Numbers.{position-number, number-position, outside}
use Rattle.ledger_model.proofs.Counts.{length-missing, size-missing}

-- ---- the positions of a set

pub length-map : (f : ℕ → ℕ) (xs : List ℕ) → length (map f xs) ≡ length xs
length-map f [] = refl
length-map f (x ∷ xs) = ap suc (length-map f xs)

pub positions-count : (s : Positions) → length (positions_of s) ≡ size s
unfolding positions_of size
positions-count [] = refl
positions-count (true ∷ s) = ap suc (length-map suc (positions_of s) ∙ positions-count s)
positions-count (false ∷ s) = length-map suc (positions_of s) ∙ positions-count s

first_of : List ℕ → Option ℕ
first_of [] = none
first_of (x ∷ xs) = some x

first-map : (f : ℕ → ℕ) (xs : List ℕ) → first_of (map f xs) ≡ Option.map f (first_of xs)
unfolding first_of
first-map f [] = refl
first-map f (x ∷ xs) = refl

positions-least : (s : Positions) → least s ≡ first_of (positions_of s)
unfolding positions_of least first_of
positions-least [] = refl
positions-least (true ∷ s) = refl
positions-least (false ∷ s) = ap (Option.map suc) (positions-least s) ∙ sym (first-map suc (positions_of s))

lowest-taken : (key first : ℕ) (xs : List ℕ) → lowest_number key first (first_of xs) ≡ take 1 (map (position_number key first) xs)
unfolding first_of
lowest-taken key first [] = refl
lowest-taken key first (x ∷ xs) = refl

-- A position is among them exactly where it is in the set.
pub has-position : (s : Positions) (i : ℕ) → has s i ≡ true → Memᴰ i (positions_of s)
unfolding positions_of
has-position [] i e = absurd (false≢true e)
has-position (true ∷ s) zero e = Memᴰ.head refl
has-position (true ∷ s) (suc i) e = Memᴰ.tail (Memᴰ.map suc (has-position s i e))
has-position (false ∷ s) zero e = absurd (false≢true e)
has-position (false ∷ s) (suc i) e = Memᴰ.map suc (has-position s i e)

pub position-has : (s : Positions) (i : ℕ) → Memᴰ i (positions_of s) → has s i ≡ true
unfolding positions_of
position-has [] i m = absurd (Memᴰ.not-nil m)
position-has (true ∷ s) i m = at (Memᴰ.cases_cons m) (λ j. position-has s j)
  where
    at : (i ≡ zero) ⊎ Memᴰ i (map suc (positions_of s)) → ((j : ℕ) → Memᴰ j (positions_of s) → has s j ≡ true) → has (true ∷ s) i ≡ true
    at (inl e) h = rw e
    at (inr k) h = let j = Memᴰ.of_map suc (positions_of s) k in rw (← j.2) (h j.0 j.1)
position-has (false ∷ s) i m = let j = Memᴰ.of_map suc (positions_of s) m in rw (← j.2) (position-has s j.0 j.1)

-- ---- as reported

pub as-reported : AsReported
as-reported key first ticks =
    let gaps = missing ticks in
    let count = length-map (position_number key first) (positions_of gaps) ∙ positions-count gaps in
    let lowest = positions-least gaps in
    rw (lowest, count) (ap (λ l. size ticks ∷ size gaps ∷ l) (lowest-taken key first (positions_of gaps)))

-- ---- exactly the missing numbers

-- What is in a set is below its length.
pub has-below : (s : Positions) (i : ℕ) → has s i ≡ true → i < length s
has-below [] i e = absurd (false≢true e)
has-below (x ∷ s) zero e = zero-lt-suc _
has-below (x ∷ s) (suc i) e = suc-le-suc (has-below s i e)

pub row_fits_lem : (key i : ℕ) → i < row_length → i < modulus key
row_fits_lem key i l =
    by_bool (ltb key rsr_start)
    (λ e. rw (telemetry-modulus key (ltb-true key rsr_start e)) (omega arith))
    (λ e. rw (rsr-modulus key (ltb-false key rsr_start e)) (omega arith))

-- A number with a position in the row is one of the stream's.
pub in-row-number : (key first n : ℕ) → position key first n < row_length → is_number key n ≡ true
in-row-number key first n l =
    by_bool (is_number key n) (λ e. e) (λ e. absurd (omega (arith, ltb-false (position key first n) row_length (outside key first n e))))

-- No two numbers have one position in the row.
pub positions-differ : (key first m n : ℕ) → first < modulus key → position key first n < row_length → position key first m ≡ position key first n
    → m ≡ n
positions-differ key first m n f l e =
    let here : position key first m < row_length = rw e l in
    let m-is = number-position key first m f (ltb-true m (modulus key) (in-row-number key first m here)) in
    let n-is = number-position key first n f (ltb-true n (modulus key) (in-row-number key first n l)) in
    sym m-is ∙ ap (position_number key first) e ∙ n-is

pub exactly-missing : ExactlyMissing
exactly-missing key first ticks ok n = (listed, stands)
  where
    gaps : Positions
    gaps = missing ticks

    below : (i : ℕ) → has (missing ticks) i ≡ true → i < row_length
    below i e = rw (length-missing ticks, ok.2) at (has-below (missing ticks) i e)

    listed : Memᴰ n (missing_numbers (row key first ticks)) → has (missing ticks) (position key first n) ≡ true
    listed m =
        let i = Memᴰ.of_map (position_number key first) (positions_of (missing ticks)) m in
        let e = position-has (missing ticks) i.0 i.1 in
        let at : position key first n ≡ i.0 =
        ap (position key first) (sym i.2) ∙ position-number key first i.0 ok.1 (row_fits_lem key i.0 (below i.0 e)) in
        rw at e

    stands : has (missing ticks) (position key first n) ≡ true → Memᴰ n (missing_numbers (row key first ticks))
    stands e =
        let i = position key first n in
        let number = ltb-true n (modulus key) (in-row-number key first n (below i e)) in
        Memᴰ.cast (sym (number-position key first n ok.1 number))
        (Memᴰ.map (position_number key first) (has-position (missing ticks) i e))

-- ---- how many

-- Where nothing is ticked nothing is missing.
record Nothing (s : Positions) : Type 0 where
  untouched : any_ticked s ≡ false
  complete : size (missing s) ≡ 0

nothing : (s : Positions) → size s ≡ 0 → Nothing s
unfolding size any_ticked missing
nothing [] e = record { untouched = refl; complete = refl }
nothing (true ∷ s) e = absurd (omega arith)
nothing (false ∷ s) e = let h = nothing s e in record { untouched = h.untouched; complete = rw h.untouched h.complete }

pub long-enough : LongEnough
long-enough free ok = zero-le
long-enough (row key first ticks) ok =
    let count = length-map (position_number key first) (positions_of (missing ticks)) ∙ positions-count (missing ticks) in
    at (size ticks) refl count
  where
    at : (k : ℕ) → size ticks ≡ k → length (missing_numbers (row key first ticks)) ≡ size (missing ticks)
        → length (missing_numbers (row key first ticks)) ≤ most_missing
    at zero e count = omega (arith, count, (nothing ticks e).complete)
    at (suc k) e count = omega (arith, count, e, size-missing ticks, ok.2)
