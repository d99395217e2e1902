-- Bytes read behind others. Assumes nothing.
use Prim.Native.Nat.{ℕ, ◌+◌, ◌-◌, ◌≤◌}
use native.Mathlib.Omega.{arith}
use mathlib.Core.List.{List}
use mathlib.Core.Path.{◌≡◌, refl, sym, ap, ◌∙◌}
use lib.ListN.{length, take}
use lib.Seq.{take-take}
use Rattle.streaming.specs.inner.Reading.{Behind}

-- read up to `at`
pub record Reads (old : List ℕ) (have want : ℕ) (new : List ℕ) (at : ℕ) : Type 0 where
  pub least : have ≤ at
  pub most : at ≤ want
  pub same : length new ≡ length old
  pub held : take have new ≡ take have old

pub reads_none : (w : List ℕ) (have want : ℕ) → have ≤ want → Reads w have want w have
reads_none w have want h = record { least = omega arith; most = h; same = refl; held = refl }

module _ {old mid : List ℕ} {have want at : ℕ} (f : Reads old have want mid at) where
  kept : (new : List ℕ) → take at new ≡ take at mid → take have new ≡ take have old
  kept new same =
      let first : (s : List ℕ) → take have (take at s) ≡ take have s = λ s. take-take have at s f.least in
      sym (first new) ∙ ap (take have) same ∙ first mid ∙ f.held

  pub reads_more : (new : List ℕ) (got : ℕ) → Behind mid at want new got → length new ≡ length mid → Reads old have want new (at + got)
  reads_more new got b l = record { least = omega (arith, f.least); most = b.within; same = l ∙ f.same; held = kept new b.held }

  -- none came
  pub reads-last : (new : List ℕ) (got : ℕ) → Behind mid at want new got → Behind old have want new (at - have)
  reads-last new got b = record { held = kept new b.held; within = omega (arith, f.least, f.most) }

  pub reads_end : Behind old have want mid (at - have)
  reads_end = record { held = f.held; within = omega (arith, f.least, f.most) }
