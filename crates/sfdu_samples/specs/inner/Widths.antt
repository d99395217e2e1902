-- Which widths samples have. Assumes nothing.
use Rattle.std.specs.Prelude.{◌≡◌, ℕ, ◌^◌, ◌<◌, ◌≤◌}
use Rattle.sfdu_samples.specs.Packing.{half_sample_word, per_half}

-- Samples of w bits fill a half word exactly.
pub record IsWidth (w : ℕ) : Type 0 where
  pub some : 0 < w
  pub most : w ≤ 16
  pub whole : (2 ^ w) ^ per_half w ≡ half_sample_word
