-- The clauses of `right`: for a desk whose first byte is known, and what follows from a right sheet. Assumes nothing.
use Prim.Native.Nat.{ℕ, zero, suc, ◌+◌, ◌-◌, ◌≤◌, ◌<◌}
use native.Mathlib.Nat.{eq-or-lt_of_le}
use native.Mathlib.Numerals.{add-one}
use native.Mathlib.Omega.{arith}
use mathlib.Core.Bool.{Bool, true, false, cond, ◌&&◌, and-true}
use mathlib.Core.List.{List}
use mathlib.Core.Logic.{⊎_elim}
use mathlib.Core.Path.{◌≡◌, refl, sym, ap, ◌∙◌}
use lib.Dec.{eqb, ltb, lit≤}
use lib.ListN.{length}
use borrow.Author.Tests.{eqb-true, ltb-true}
use Rattle.laws.proofs.Bools.{and_split}
use Rattle.octets.specs.Octets.{all, zero_at}
use Rattle.octets.proofs.Laws.{all-at}
use Rattle.ledger_sheet.specs.Sheet.{sheet_size, row_count, desk_size, desk_count, desk_zeros_at, desk_zeros_size}
use Rattle.ledger_sheet.specs.Sheet.{opened_at, worked_at, desks_start, desk_at, used, is_used, is_row}
use Rattle.ledger_sheet.specs.Sheet.{desk_byte, desk_row, is_closed, carries, count, header_right, count_right, valid_keys}
use Rattle.ledger_sheet.specs.Sheet.{different_keys, first_numbers, free_zero, closed_zero, desk_marked, open_names, desk_right, right}
use Rattle.ledger_sheet.specs.inner.Judging.{rows_right, Zeros}
use Rattle.ledger_sheet.proofs.Desks.{closed_is, open_is, UpTo, longer, ended}

-- ---- desks

-- a desk names a used row, and its copies carry that row's flag, key and first number
abbrev names : List ℕ → ℕ → Bool
names s d = is_row s (desk_row s d) && carries s (desk_at d + opened_at) (desk_row s d) && carries s (desk_at d + worked_at) (desk_row s d)

module _ (s : List ℕ) (d : ℕ) where
  pub closed-desk : desk_byte s d ≡ 0 → zero_at s (desk_at d) desk_size ≡ desk_right s d
  unfolding desk_right closed_zero desk_marked open_names
  closed-desk e = closed_is s (desk_at d) desk_size (names s d) e (lit≤ tt)

  pub open-desk : (desk_byte s d ≡ 0 → ⊥) → (eqb (desk_byte s d) 1 && zero_at s (desk_at d + desk_zeros_at) desk_zeros_size && names s d) ≡ desk_right s d
  unfolding desk_right closed_zero desk_marked open_names
  open-desk n = open_is s (desk_at d) desk_size (names s d) n

-- the rows and the first desks, of which the closed ones are to be zero
abbrev pub DesksUpTo : List ℕ → (before : Bool) (z d : ℕ) → Type 0
DesksUpTo s before z d = UpTo s desks_start desk_size (rows_right s) (desk_right s) before z d

pub none-judged : (s : List ℕ) (before : Bool) (z : ℕ) → Zeros s before z → DesksUpTo s before z 0
unfolding all
none-judged s before z h = h.says ∙ sym (and-true _)

module _ (s : List ℕ) (before : Bool) (z d : ℕ) (h : DesksUpTo s before z d) (l : z ≤ desk_at d) where
  pub closed-judged : desk_byte s d ≡ 0 → DesksUpTo s before z (d + 1)
  closed-judged e = longer s desks_start desk_size (rows_right s) (desk_right s) before z d h l (closed-desk s d e)

  pub open-judged : DesksUpTo s (before && zero_at s z (desk_at d - z) && desk_right s d) (desk_at d + desk_size) (d + 1)
  open-judged = ended s desks_start desk_size (rows_right s) (desk_right s) before z d h l

-- ---- counts

pub count_none : (p : ℕ → Bool) → count 0 p ≡ 0
unfolding count
count_none p = refl

pub count_next : (n : ℕ) (p : ℕ → Bool) → count (n + 1) p ≡ count n p + cond (p n) 1 0
unfolding count
count_next n p = rw add-one

-- some row that is counted makes the count positive
pub count-some : (n i : ℕ) (p : ℕ → Bool) → i < n → p i ≡ true → 0 < count n p
unfolding count
count-some zero i p l e = absurd (omega arith)
count-some (suc n) i p l e =
    ⊎_elim
    (λ (q : i ≡ n). let one : p n ≡ true = ap p (sym q) ∙ e in rw one (omega arith))
    (λ (q : i < n). omega (arith, count-some n i p q e))
    (eq-or-lt_of_le (omega arith))

-- ---- what a right sheet tells

-- its clauses
pub record Right (s : List ℕ) : Type 0 where
  pub long : length s ≡ sheet_size
  pub header : header_right s ≡ true
  pub counted : count row_count (is_used s) ≡ used s
  pub valid : valid_keys s ≡ true
  pub different : different_keys s ≡ true
  pub firsts : first_numbers s ≡ true
  pub free : free_zero s ≡ true
  pub desks : all desk_count (desk_right s) ≡ true

pub right-parts : (s : List ℕ) → right s ≡ true → Right s
unfolding right count_right
right-parts s h =
    let long = eqb (length s) sheet_size in
    let rows = count_right s && valid_keys s && different_keys s && first_numbers s in
    let h4 = and_split (long && header_right s && rows && free_zero s) (all desk_count (desk_right s)) h in
    let h3 = and_split (long && header_right s && rows) (free_zero s) h4.0 in
    let h2 = and_split (long && header_right s) rows h3.0 in
    let h1 = and_split long (header_right s) h2.0 in
    let f = and_split (count_right s && valid_keys s && different_keys s) (first_numbers s) h2.1 in
    let k = and_split (count_right s && valid_keys s) (different_keys s) f.0 in
    let c = and_split (count_right s) (valid_keys s) k.0 in
    record {
      long = eqb-true _ _ h1.0;
      header = h1.1;
      counted = eqb-true _ _ c.0;
      valid = c.1;
      different = k.1;
      firsts = f.1;
      free = h3.1;
      desks = h4.1;
    }

-- a row that there is: its number, and its flag
pub row-parts : (s : List ℕ) (i : ℕ) → is_row s i ≡ true → (i < row_count) × (is_used s i ≡ true)
row-parts s i h = let p = and_split (ltb i row_count) (is_used s i) h in (ltb-true i row_count p.0, p.1)

-- a desk that is not closed names a row that there is
pub open_row : (s : List ℕ) (d : ℕ) → right s ≡ true → d < desk_count → is_closed s d ≡ false → is_row s (desk_row s d) ≡ true
unfolding desk_right open_names
open_row s d h l o =
    let names = (and_split (closed_zero s d && desk_marked s d) (open_names s d) (all-at desk_count d (desk_right s) (right-parts s h).desks l)).1 in
    let row = is_row s (desk_row s d) in
    let opened = carries s (desk_at d + opened_at) (desk_row s d) in
    let h1 = and_split (row && opened) (carries s (desk_at d + worked_at) (desk_row s d)) (rw o at names) in
    (and_split row opened h1.0).0
