-- What both layouts of a sheet share, for any sizes: the clauses of a desk, and the range of zeros that closed desks make longer.
-- Assumes nothing.
use Prim.Native.Nat.{ℕ, ◌+◌, ◌*◌, ◌-◌, ◌≤◌}
use native.Mathlib.Nat.{mul-add, mul-one}
use native.Mathlib.Omega.{arith}
use mathlib.Core.Bool.{Bool, true, false, not, ◌&&◌, ◌||◌, and-true, and_assoc}
use mathlib.Core.List.{List}
use mathlib.Core.Path.{◌≡◌, refl}
use lib.Dec.{eqb, leb}
use lib.ListN.{get_or}
use borrow.Author.Tests.{eq-eqb, ne_eqb, lt-leb, le-leb, eqb-true, eqb-false}
use Rattle.octets.specs.Octets.{all, zero_at}
use Rattle.octets.proofs.Laws.{all-next, zero-join}
use Rattle.ledger_sheet.specs.Sheet.{desk_zeros_at, desk_zeros_size}
use Rattle.ledger_sheet.proofs.Ranges.{zero-within}

-- a desk of w bytes at index a; `names` says that it names a used row and that its copies carry what they must of it
module _ (s : List ℕ) (a w : ℕ) (names : Bool) where
  abbrev byte : ℕ
  byte = get_or s a 0

  abbrev pub desk_is : Bool
  desk_is = (not (eqb byte 0) || zero_at s a w) && (leb byte 1 && zero_at s (a + desk_zeros_at) desk_zeros_size) && (eqb byte 0 || names)

  -- a closed desk is right exactly when it is zero
  pub closed_is : byte ≡ 0 → desk_zeros_at + desk_zeros_size ≤ w → zero_at s a w ≡ desk_is
  closed_is e l = by (zero_at s a w) refl
    where
      by : (b : Bool) → zero_at s a w ≡ b → zero_at s a w ≡ desk_is
      by true z = rw (z, eq-eqb _ _ e, zero-within s a w (a + desk_zeros_at) desk_zeros_size z (omega arith) (omega arith), le-leb byte 1 (omega arith))
      by false z = rw (z, eq-eqb _ _ e)

  -- any other, when it is marked open and has its zeros and its names
  marked : (byte ≡ 0 → ⊥) → leb byte 1 ≡ eqb byte 1
  marked n = by (eqb byte 1) refl
    where
      by : (b : Bool) → eqb byte 1 ≡ b → leb byte 1 ≡ eqb byte 1
      by true e = let one = eqb-true byte 1 e in rw (e, le-leb byte 1 (omega arith))
      by false e = let other = eqb-false byte 1 e in rw (e, lt-leb byte 1 (omega arith))

  pub open_is : (byte ≡ 0 → ⊥) → (eqb byte 1 && zero_at s (a + desk_zeros_at) desk_zeros_size && names) ≡ desk_is
  open_is n = rw (ne_eqb byte 0 n, marked n)

-- the desks of w bytes from index `start` on; `rows` is what is asked of the bytes before them, and `desk` what of each
module _ (s : List ℕ) (start w : ℕ) (rows : Bool) (desk : ℕ → Bool) where
  -- what is left to say of the bytes from index z up to desk d, and what has been said of those before
  abbrev pub UpTo : (before : Bool) (z d : ℕ) → Type 0
  UpTo before z d = (before && zero_at s z (start + w * d - z)) ≡ (rows && all d desk)

  next : (d : ℕ) → start + w * (d + 1) ≡ start + w * d + w
  next d = rw (mul-add w d 1, mul-one) (omega arith)

  module _ (before : Bool) (z d : ℕ) (h : UpTo before z d) (l : z ≤ start + w * d) where
    -- a closed desk makes the range longer
    pub longer : zero_at s (start + w * d) w ≡ desk d → UpTo before z (d + 1)
    longer e =
        let here = start + w * d in
        let n : start + w * (d + 1) - z ≡ here - z + w = omega (arith, next d) in
        let m : z + (here - z) ≡ here = omega arith in
        rw (n, zero-join s z (here - z) w, m, e, all-next, ← and_assoc, h, ← and_assoc)

    -- the range ends at any other
    pub ended : UpTo (before && zero_at s z (start + w * d - z) && desk d) (start + w * d + w) (d + 1)
    unfolding zero_at all
    ended =
        let n : start + w * (d + 1) - (start + w * d + w) ≡ 0 = omega (arith, next d) in
        rw (n, and-true, h, all-next, ← and_assoc)
