-- The modulus of each kind of stream. Assumes nothing.
use Prim.Native.Nat.{ℕ, ◌^◌, ◌≤◌, ◌<◌}
use native.Mathlib.Omega.{arith}
use mathlib.Core.Bool.{Bool, true, false, cond}
use mathlib.Core.Path.{◌≡◌}
use lib.Dec.{ltb}
use borrow.Author.Tests.{lt-ltb, le-ltb}
use Rattle.keys.specs.Key.{rsr_start}
use Rattle.keys.specs.Numbers.{modulus}

pub telemetry-modulus : (key : ℕ) → key < rsr_start → modulus key ≡ 2 ^ 32
unfolding modulus
telemetry-modulus key h = rw (lt-ltb key rsr_start h)

pub rsr-modulus : (key : ℕ) → rsr_start ≤ key → modulus key ≡ 2 ^ 16
unfolding modulus
rsr-modulus key h = rw (le-ltb key rsr_start h)

-- The numbers of every stream fit 32 bits.
pub modulus-fits : (key : ℕ) → modulus key ≤ 2 ^ 32
unfolding modulus
modulus-fits key = by (ltb key rsr_start)
  where
    by : (telemetry : Bool) → cond telemetry (2 ^ 32) (2 ^ 16) ≤ 2 ^ 32
    by true = omega arith
    by false = omega arith
