-- `answers::records::with_source` meets its contract. Assumes nothing.
use mathlib.Core.Path.{refl}
use Rattle.answers.proofs.records.with_source.Goals as goal

pub returns : goal.returns
returns c = refl
