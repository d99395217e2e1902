-- `sfdu_headers::rsr::signed` meets its contract. Assumes nothing.
use native.Mathlib.Omega.{arith}
use Prim.Native.Nat.{ℕ, suc, ◌-◌, ◌≤◌, ◌<◌}
use mathlib.Core.Path.{◌≡◌}
use borrow.Author.Rules.{sfits_of}
use borrow.Author.Tests.{lt-ltb, le-ltb}
use lib.IntN.{pos, negsuc, ◌-ℤ◌}
use mir.Syntax.{w8, w16}
use mir.Val.{SFits, to_z}
use mir.ValLaws.{to_z_pos, to_z-of_z}
use Rattle.sfdu_headers.specs.Fields.{signed_byte}
use Rattle.sfdu_headers.proofs.rsr.signed.Goals as goal

wide16 : (b : ℕ) → b < 256 → to_z w16 b ≡ pos b
wide16 b h = to_z_pos w16 b (omega arith)

-- a byte from 128 on, less 256
less : (b : ℕ) → b < 256 → pos b -ℤ pos 256 ≡ negsuc (256 - suc b)
less b h = rw (lt-ltb _ _ h)

low8 : (b : ℕ) → 128 ≤ b → b < 256 → SFits w8 (pos b -ℤ pos 256)
low8 b l h = rw (less b h) (sfits_of (omega arith))

low16 : (b : ℕ) → 128 ≤ b → b < 256 → SFits w16 (pos b -ℤ pos 256)
low16 b l h = rw (less b h) (sfits_of (omega arith))

pub returns-then-b-lt128 : goal.returns-then-b-lt128
unfolding signed_byte
returns-then-b-lt128 c = rw (lt-ltb _ _ c.if-b-lt128.true)

pub overflow_sub-result : goal.overflow_sub-result
overflow_sub-result c = rw (wide16 c.args.b c.ranges.b.fits) (low16 c.args.b c.if-b-lt128.false c.ranges.b.fits)

pub overflow_cast-result-3 : goal.overflow_cast-result-3
overflow_cast-result-3 c = rw (
  wide16 c.args.b c.ranges.b.fits,
  to_z-of_z w16 _ (low16 c.args.b c.if-b-lt128.false c.ranges.b.fits),
) (low8 c.args.b c.if-b-lt128.false c.ranges.b.fits)

pub returns : goal.returns
unfolding signed_byte
returns c =
    let b = c.args.b in
    let h = c.ranges.b.fits in
    rw (wide16 b h, to_z-of_z w16 _ (low16 b c.if-b-lt128.false h), to_z-of_z w8 _ (low8 b c.if-b-lt128.false h), le-ltb _ _ c.if-b-lt128.false)
