-- The parts of an accepted record, by the kind and the length that read one answered. Assumes nothing.
use Prim.Native.Nat.{ℕ, ◌-◌, ◌≤◌}
use native.Mathlib.Omega.{arith}
use mathlib.Core.Bool.{false}
use mathlib.Core.List.{List, []}
use mathlib.Core.Path.{◌≡◌, sym, subst}
use lib.ListN.{length}
use Rattle.octets.specs.Octets.{part}
use Rattle.sfdu.specs.declared.Kind.{Kind}
use Rattle.sfdu.specs.Nesting.{secondary_value_at, data_at, data_value_at, secondary_length}
use Rattle.sfdu.specs.Read.{kind_of, accepts, secondary_start, secondary_part, data_start, data_part}
use Rattle.sfdu.proofs.Placed.{placed}
use Rattle.sfdu.proofs.Accepted.{Found, Accepted, accepted}

module _ (s : List ℕ) (k : Kind) (n : ℕ) (rest : List ℕ) (f : Found s k n rest) where
  pub room : (data_value_at k ≤ n) × (n ≤ length s)
  room =
      let a : Accepted s = accepted s f.accepted in
      let p = placed (kind_of s) in
      let low : data_value_at (kind_of s) ≤ n = omega arith in
      (subst (λ (l : Kind). data_value_at l ≤ n) (sym f.kind) low, omega arith)

  pub secondary-room : (secondary_value_at ≤ data_at k) × (data_at k ≤ length s)
  secondary-room = let p = placed k in (omega arith, omega (arith, room.0, room.1))

  pub secondary-start : secondary_start s ≡ secondary_value_at
  unfolding secondary_start
  secondary-start = rw f.accepted

  pub secondary-part : secondary_part s ≡ part s secondary_value_at (secondary_length k)
  unfolding secondary_part
  secondary-part = rw (f.accepted, f.kind)

  pub data-start : data_start s ≡ data_value_at k
  unfolding data_start
  data-start = rw (f.accepted, f.kind)

  pub data-part : data_part s ≡ part s (data_value_at k) (n - data_value_at k)
  unfolding data_part
  data-part = rw (f.accepted, f.kind, f.size)

-- Where read one refuses: the empty part at the start.
pub record NoParts (s : List ℕ) : Type 0 where
  pub no-secondary : secondary_part s ≡ []
  pub secondary-at : secondary_start s ≡ 0
  pub no-data : data_part s ≡ []
  pub data-at : data_start s ≡ 0

pub no-parts : (s : List ℕ) → accepts s ≡ false → NoParts s
unfolding secondary_part secondary_start data_part data_start
no-parts s e = record { no-secondary = rw e; secondary-at = rw e; no-data = rw e; data-at = rw e }
