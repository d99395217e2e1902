-- The clauses of `right`: for a desk whose first byte is known, and what follows from a right sheet. Assumes nothing.
use Prim.Native.Nat.{ℕ, ◌+◌, ◌*◌, ◌-◌, ◌≤◌}
use native.Mathlib.Omega.{arith}
use mathlib.Core.Bool.{Bool, true, ◌&&◌, and-true}
use mathlib.Core.List.{List}
use mathlib.Core.Path.{◌≡◌, sym, ◌∙◌}
use lib.Dec.{eqb, ltb, leb, lit≤}
use lib.ListN.{length}
use borrow.Author.Tests.{eqb-true, leb-true}
use Rattle.laws.proofs.Bools.{and_split}
use Rattle.octets.specs.Octets.{all, zero_at}
use Rattle.ledger_sheet.specs.Sheet.{row_count, rows_start, desk_zeros_at, desk_zeros_size, opened_at, desk_count, length_at}
use Rattle.ledger_sheet.specs.Sheet.{row_count_at, rows_start_at, desk_count_at, desks_start_at, header_number, used}
use Rattle.ledger_convert.specs.Old.{sheet_size, row_size, desk_size}
use Rattle.ledger_convert.specs.Old.{worked_at, desks_start, row_at, desk_at}
use Rattle.ledger_convert.specs.Old.{desk_byte, desk_row, carries, header_right, valid_keys, different_keys}
use Rattle.ledger_convert.specs.Old.{first_numbers, unused_zero, closed_zero, desk_marked, open_names, desk_right, right}
use Rattle.ledger_convert.specs.inner.Sized.{Sized}
use Rattle.ledger_sheet.proofs.Desks.{closed_is, open_is, UpTo, longer, ended}
use Rattle.ledger_convert.proofs.Ranges.{zero-rows}

-- ---- desks, by the laws over the sizes

-- a desk names a used row, and its copies carry that row's key and first number
abbrev names : List ℕ → ℕ → Bool
names s d = ltb (desk_row s d) (used s) && carries s (desk_at d + opened_at) (desk_row s d) && carries s (desk_at d + worked_at) (desk_row s d)

module _ (s : List ℕ) (d : ℕ) where
  pub closed-desk : desk_byte s d ≡ 0 → zero_at s (desk_at d) desk_size ≡ desk_right s d
  unfolding desk_right closed_zero desk_marked open_names
  closed-desk e = closed_is s (desk_at d) desk_size (names s d) e (lit≤ tt)

  pub open-desk : (desk_byte s d ≡ 0 → ⊥) → (eqb (desk_byte s d) 1 && zero_at s (desk_at d + desk_zeros_at) desk_zeros_size && names s d) ≡ desk_right s d
  unfolding desk_right closed_zero desk_marked open_names
  open-desk n = open_is s (desk_at d) desk_size (names s d) n

-- the unused rows and the first desks, of which those from index z on are to be zero
abbrev pub Judged : List ℕ → (before : Bool) (z d : ℕ) → Type 0
Judged s before z d = UpTo s desks_start desk_size (unused_zero s) (desk_right s) before z d

pub none-judged : (s : List ℕ) → used s ≤ row_count → Judged s true (row_at (used s)) 0
unfolding unused_zero all
none-judged s few =
    let e : used s + (row_count - used s) ≡ row_count = omega arith in
    let n : desk_at 0 - row_at (used s) ≡ row_size * (row_count - used s) = omega arith in
    rw n (zero-rows s rows_start row_size (used s) (row_count - used s) ∙ rw e (sym (and-true _)))

module _ (s : List ℕ) (before : Bool) (z d : ℕ) (h : Judged s before z d) (l : z ≤ desk_at d) where
  pub closed-judged : desk_byte s d ≡ 0 → Judged s before z (d + 1)
  closed-judged e = longer s desks_start desk_size (unused_zero s) (desk_right s) before z d h l (closed-desk s d e)

  pub open-judged : Judged s (before && zero_at s z (desk_at d - z) && desk_right s d) (desk_at d + desk_size) (d + 1)
  open-judged = ended s desks_start desk_size (unused_zero s) (desk_right s) before z d h l

-- ---- what a right sheet tells

-- the header counts no more rows than there are
pub header-few : (s : List ℕ) → header_right s ≡ true → used s ≤ row_count
unfolding header_right
header-few s h =
    let size = eqb (header_number s length_at) sheet_size in
    let few = leb (used s) row_count in
    let rows = eqb (header_number s row_count_at) row_count in
    let start = eqb (header_number s rows_start_at) rows_start in
    let desks = eqb (header_number s desk_count_at) desk_count in
    let h4 = and_split (size && few && rows && start && desks) (eqb (header_number s desks_start_at) desks_start) h in
    let h3 = and_split (size && few && rows && start) desks h4.0 in
    let h2 = and_split (size && few && rows) start h3.0 in
    let h1 = and_split (size && few) rows h2.0 in
    leb-true _ _ (and_split size few h1.0).1

-- its clauses
pub record Right (s : List ℕ) : Type 0 where
  pub long : length s ≡ sheet_size
  pub header : header_right s ≡ true
  pub valid : valid_keys s ≡ true
  pub different : different_keys s ≡ true
  pub firsts : first_numbers s ≡ true
  pub unused : unused_zero s ≡ true
  pub desks : all desk_count (desk_right s) ≡ true

pub right-parts : (s : List ℕ) → right s ≡ true → Right s
unfolding right
right-parts s h =
    let long = eqb (length s) sheet_size in
    let rows = valid_keys s && different_keys s && first_numbers s in
    let h4 = and_split (long && header_right s && rows && unused_zero s) (all desk_count (desk_right s)) h in
    let h3 = and_split (long && header_right s && rows) (unused_zero s) h4.0 in
    let h2 = and_split (long && header_right s) rows h3.0 in
    let h1 = and_split long (header_right s) h2.0 in
    let f = and_split (valid_keys s && different_keys s) (first_numbers s) h2.1 in
    let k = and_split (valid_keys s) (different_keys s) f.0 in
    record { long = eqb-true _ _ h1.0; header = h1.1; valid = k.0; different = k.1; firsts = f.1; unused = h3.1; desks = h4.1 }

-- its length and its count of rows: what the functions on a right sheet ask
pub sized : (s : List ℕ) → right s ≡ true → Sized s
sized s h = let r = right-parts s h in record { long = r.long; few = header-few s r.header }
