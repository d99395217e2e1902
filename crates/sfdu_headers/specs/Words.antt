-- The words of an answer: a number, a signed number, or none, which differs from every number. Assumes nothing.
use Rattle.std.specs.Prelude.{ℕ, ℤ}

pub data Word : Type 0 where
  number : ℕ → Word
  signed : ℤ → Word
  none : Word
