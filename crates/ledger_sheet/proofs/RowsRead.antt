-- What the tests have found out about the first rows. Assumes nothing.
use Prim.Native.Nat.{ℕ, zero, suc, ◌+◌, ◌*◌, ◌-◌, ◌≤◌, ◌<◌, ◌%◌}
use native.Mathlib.Nat.{add-zero, mod-lt, eq-or-lt_of_le}
use native.Mathlib.Omega.{arith}
use mathlib.Core.Bool.{Bool, true, false, cond, not, ◌&&◌, ◌||◌, and-true, and-false, and_assoc}
use mathlib.Core.List.{List}
use mathlib.Core.Logic.{⊎_elim}
use mathlib.Core.Path.{◌≡◌, refl, sym, ap, ◌∙◌}
use lib.Dec.{eqb}
use lib.ListN.{length, get_or, set, take, length-set}
use Rattle.std.proofs.lemmas.List.{get_or-take, length-take-le}
use lib.Seq.{get_or-set_same, get_or-set_other}
use borrow.Author.Tests.{eq-eqb, ne_eqb, eqb-true, eqb-false}
use Rattle.octets.specs.Octets.{all, number_at, zero_at}
use Rattle.octets.proofs.Laws.{all_none, all-next, all_same, all_both, all-each, zero-join}
use Rattle.keys.specs.Key.{valid_key}
use Rattle.keys.specs.Numbers.{is_number}
use Rattle.ledger_sheet.specs.Sheet.{used_flag_size, row_size, row_count, row_at, desks_start, used, is_used, key_at}
use Rattle.ledger_sheet.specs.Sheet.{first_number_at, count, count_right, is_new, valid_keys, different_keys, first_numbers, free_zero}
use Rattle.ledger_sheet.specs.inner.Judging.{rows_right, Zeros, Marked, mark_count}
use Rattle.ledger_sheet.proofs.Clauses.{count_none, count_next}
use Rattle.ledger_sheet.proofs.Ranges.{Read, none_read, read_more, read_past, zero-within, zero_number}

-- ---- marks

pub none-marked : (keys marks : List ℕ) → Marked keys marks 0
none-marked keys marks j l = absurd (omega arith)

-- those before it set theirs
pub marked-front : (keys marks : List ℕ) (n : ℕ) → n ≤ length keys → Marked keys marks n → Marked (take n keys) marks (length (take n keys))
marked-front keys marks n l h j b =
    let few : j < n = omega (arith, b, length-take-le n keys l) in
    rw (get_or-take n keys j 0 few) (h j few)

-- a key that is not among those before it is other than each
pub front-other : (keys : List ℕ) (n key : ℕ) → n ≤ length keys
    → all (length (take n keys)) (λ j. not (eqb (get_or (take n keys) j 0) key)) ≡ all n (λ j. not (eqb (get_or keys j 0) key))
front-other keys n key l =
    rw (length-take-le n keys l) (all_same n _ _ (λ j b. ap (λ (k : ℕ). not (eqb k key)) (get_or-take n keys j 0 b)))

module _ (keys marks : List ℕ) (n key : ℕ) (h : Marked keys marks n) where
  -- a key whose place has no mark is new
  pub unmarked-new : (get_or marks (key % mark_count) 0 ≡ 1 → ⊥) → all n (λ j. not (eqb (get_or keys j 0) key)) ≡ true
  unmarked-new free = all-each n _ (λ j l. rw (ne_eqb (get_or keys j 0) key (λ e. free (rw e at (h j l)))))

  -- one more key leaves its mark
  pub marked_more : n < length keys → length marks ≡ mark_count → Marked (set keys n key) (set marks (key % mark_count) 1) (n + 1)
  marked_more l m j b = ⊎_elim (λ (q : j ≡ n). last q) (λ (q : j < n). before q) (eq-or-lt_of_le (omega arith))
    where
      place : key % mark_count < length marks
      place = rw m (mod-lt key (omega arith))

      last : j ≡ n → get_or (set marks (key % mark_count) 1) (get_or (set keys n key) j 0 % mark_count) 0 ≡ 1
      last q = rw (q, get_or-set_same keys n key 0 l) (get_or-set_same marks (key % mark_count) 1 0 place)

      before : j < n → get_or (set marks (key % mark_count) 1) (get_or (set keys n key) j 0 % mark_count) 0 ≡ 1
      before q = rw (get_or-set_other keys n j key 0 (λ e. omega arith)) (by (eqb (key % mark_count) (get_or keys j 0 % mark_count)) refl)
        where
          by : (b : Bool) → eqb (key % mark_count) (get_or keys j 0 % mark_count) ≡ b → get_or
              (set marks (key % mark_count) 1) (get_or keys j 0 % mark_count) 0 ≡ 1
          by true e = rw (← eqb-true (key % mark_count) (get_or keys j 0 % mark_count) e) (get_or-set_same marks (key % mark_count) 1 0 place)
          by false e =
              let apart = eqb-false (key % mark_count) (get_or keys j 0 % mark_count) e in
              get_or-set_other marks (key % mark_count) (get_or keys j 0 % mark_count) 1 0 (λ q'. apart (sym q')) ∙ h j q

-- ---- the first i rows

module _ (s : List ℕ) where
  abbrev valid_row : ℕ → Bool
  valid_row k = not (is_used s k) || valid_key (key_at s (row_at k))

  abbrev new_row : ℕ → Bool
  new_row k = not (is_used s k) || is_new s k (key_at s (row_at k))

  abbrev numbered_row : ℕ → Bool
  numbered_row k = not (is_used s k) || is_number (key_at s (row_at k)) (first_number_at s (row_at k))

  abbrev zero_row : ℕ → Bool
  zero_row k = is_used s k || zero_at s (row_at k) row_size

  -- what is asked of row k
  abbrev pub row_right : ℕ → Bool
  row_right k = valid_row k && new_row k && numbered_row k && zero_row k

  rows_all : (n : ℕ) → all n row_right ≡ (all n valid_row && all n new_row && all n numbered_row && all n zero_row)
  rows_all n =
      all_both n (λ k. valid_row k && new_row k && numbered_row k) zero_row
      ∙ rw (all_both n (λ k. valid_row k && new_row k) numbered_row, all_both n valid_row new_row)

-- The array has the keys of the used rows among the first i, each with its mark, and what is gathered says it of these rows.
pub record RowsRead (s keys marks : List ℕ) (found : ℕ) (right : Bool) (i : ℕ) : Type 0 where
  pub long : length keys ≡ row_count
  pub marks-long : length marks ≡ mark_count
  pub few : found ≤ i
  pub counted : found ≡ count i (is_used s)
  pub keys-read : Read (λ j. key_at s (row_at j)) (is_used s) keys found i
  pub marked : Marked keys marks found
  pub right_is : right ≡ all i (row_right s)

pub no-row-read : (s keys marks : List ℕ) → length keys ≡ row_count → length marks ≡ mark_count → RowsRead s keys marks 0 true 0
no-row-read s keys marks l m =
    record {
      long = l;
      marks-long = m;
      few = omega arith;
      counted = sym (count_none _);
      keys-read = none_read (λ j. key_at s (row_at j)) (is_used s) keys;
      marked = none-marked keys marks;
      right_is = sym (all_none _);
    }

-- the order in which a used row is judged, and that of the clauses
regroup : (r v d f : Bool) → (r && (v && f) && d) ≡ (r && (v && d && f && true))
regroup false v d f = refl
regroup true false d f = refl
regroup true true false false = refl
regroup true true false true = refl
regroup true true true false = refl
regroup true true true true = refl

module _ (s keys marks : List ℕ) (found : ℕ) (right : Bool) (i : ℕ) (h : RowsRead s keys marks found right i) where
  -- a used row: its key, and what was found of it
  pub used-read : (key first : ℕ) (v d : Bool) → i < row_count → is_used s i ≡ true → key ≡ key_at s (row_at i) → first ≡ first_number_at s (row_at i)
      → v ≡ (valid_key key && is_number key first) → d ≡ all found (λ j. not (eqb (get_or keys j 0) key))
      → RowsRead s (set keys found key) (set marks (key % mark_count) 1) (found + 1) (right && v && d) (i + 1)
  unfolding is_new
  used-read key first v d l u k f ev ed =
      let row = key_at s (row_at i) in
      let new : d ≡ is_new s i row = ed ∙ h.keys-read key ∙ rw k in
      record {
        long = length-set keys found key ∙ h.long;
        marks-long = length-set marks (key % mark_count) 1 ∙ h.marks-long;
        few = omega (arith, h.few);
        counted = rw (count_next, u, ← h.counted);
        keys-read = read_more (λ j. key_at s (row_at j)) (is_used s) keys found i h.keys-read key (omega (arith, h.few, h.long)) k u;
        marked = marked_more keys marks found key h.marked (omega (arith, h.few, h.long)) h.marks-long;
        right_is = rw (all-next, u, ← h.right_is, ev, k, f, new)
            (regroup right (valid_key row) (is_new s i row) (is_number row (first_number_at s (row_at i))));
      }

  -- a free row
  pub free-read : (z : Bool) → is_used s i ≡ false → z ≡ zero_at s (row_at i) row_size → RowsRead s keys marks found (right && z) (i + 1)
  free-read z u e =
      record {
        long = h.long;
        marks-long = h.marks-long;
        few = omega (arith, h.few);
        counted = rw (count_next, u, ← h.counted) (omega arith);
        keys-read = read_past (λ j. key_at s (row_at j)) (is_used s) keys found i h.keys-read u;
        marked = h.marked;
        right_is = rw (all-next, u, ← h.right_is, e);
      }

-- ---- the rows behind them, which are to be zero

-- a used row is not zero
used-not-zero : (s : List ℕ) (k : ℕ) → is_used s k ≡ true → zero_at s (row_at k) row_size ≡ false
used-not-zero s k u = by (zero_at s (row_at k) row_size) refl
  where
    by : (b : Bool) → zero_at s (row_at k) row_size ≡ b → b ≡ false
    by false z = refl
    by true z =
        let one = eqb-true (number_at s (row_at k) used_flag_size) 1 u in
        let flag = zero-within s (row_at k) row_size (row_at k) used_flag_size z (omega arith) (omega arith) in
        let none = eqb-true (number_at s (row_at k) used_flag_size) 0 (zero_number s (row_at k) used_flag_size ∙ flag) in
        absurd (omega arith)

count-grows : (i n : ℕ) (p : ℕ → Bool) → count i p ≤ count (i + n) p
count-grows i zero p = rw add-zero (omega arith)
count-grows i (suc n) p =
    let next : i + suc n ≡ i + n + 1 = omega arith in
    rw (next, count_next) (omega (arith, count-grows i n p))

swap-last : (a b c : Bool) → (a && b && c) ≡ (a && c && b)
swap-last false b c = refl
swap-last true false false = refl
swap-last true false true = refl
swap-last true true false = refl
swap-last true true true = refl

-- the n rows behind the first i are zero exactly when they are as they should be and none is used
module _ (s : List ℕ) (i found : ℕ) (right : Bool) (counted : found ≡ count i (is_used s)) (judged : right ≡ all i (row_right s)) where
  abbrev Rest : ℕ → Type 0
  Rest n = (right && zero_at s (row_at i) (row_size * n)) ≡ (all (i + n) (row_right s) && eqb (count (i + n) (is_used s)) found)

  no-rest : Rest 0
  unfolding zero_at all
  no-rest = rw (and-true, add-zero, ← judged, ← counted, eq-eqb found found refl, and-true)

  rest-next : (n : ℕ) (b : Bool) → is_used s (i + n) ≡ b → Rest n → Rest (suc n)
  rest-next n b u h =
      let size : row_size * suc n ≡ row_size * n + row_size = omega arith in
      let place : row_at i + row_size * n ≡ row_at (i + n) = omega arith in
      let next : i + suc n ≡ i + n + 1 = omega arith in
      rw (size, zero-join s (row_at i) (row_size * n) row_size, place, ← and_assoc, h, next, all-next, count_next) (by b u)
    where
      by : (b : Bool) → is_used s (i + n) ≡ b
          → (all (i + n) (row_right s) && eqb (count (i + n) (is_used s)) found && zero_at s (row_at (i + n)) row_size)
          ≡ (all (i + n) (row_right s) && row_right s (i + n) && eqb (count (i + n) (is_used s) + cond (is_used s (i + n)) 1 0) found)
      by false u = rw (u, add-zero) (swap-last (all (i + n) (row_right s)) (eqb (count (i + n) (is_used s)) found) (zero_at s (row_at (i + n)) row_size))
      by true u =
          rw (
            used-not-zero s (i + n) u,
            u,
            and-false,
            ne_eqb (count (i + n) (is_used s) + 1) found (λ e. omega (arith, counted, count-grows i n (is_used s))),
            and-false,
          )

  rest : (n : ℕ) → Rest n
  rest zero = no-rest
  rest (suc n) = rest-next n (is_used s (i + n)) refl (rest n)

  move : (c v d f z : Bool) → (v && d && f && z && c) ≡ (c && v && d && f && z)
  move false v d f z = and-false (v && d && f && z)
  move true v d f z = and-true (v && d && f && z)

  counted-all : (all row_count (row_right s) && eqb (count row_count (is_used s)) (used s)) ≡ rows_right s
  unfolding count_right valid_keys different_keys first_numbers free_zero
  counted-all =
      rw (rows_all s row_count)
      (move (eqb (count row_count (is_used s)) (used s)) (all row_count (valid_row s)) (all row_count (new_row s)) (all row_count (numbered_row s))
      (all row_count (zero_row s)))

  -- the header's count is reached
  pub rows-found : i ≤ row_count → found ≡ used s → Zeros s (right && eqb found (used s)) (row_at i)
  rows-found l e =
      let size : desks_start - row_at i ≡ row_size * (row_count - i) = omega arith in
      let last : i + (row_count - i) ≡ row_count = omega arith in
      record {
        within = omega arith;
        says = rw (eq-eqb found (used s) e, and-true, size, rest (row_count - i), last, e) counted-all;
      }

  -- or all rows are read
  pub rows-ended : i ≡ row_count → Zeros s (right && eqb found (used s)) (row_at i)
  unfolding zero_at all
  rows-ended e =
      let size : desks_start - row_at i ≡ 0 = omega arith in
      record { within = omega arith; says = rw (size, and-true, judged, counted, e) counted-all }
