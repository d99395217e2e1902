-- `answers::records::with_signal` meets its contract. Assumes nothing.
use native.Mathlib.Omega.{arith}
use Rattle.answers.proofs.records.with_signal.Goals as goal

pub overflow_cast-numbers-9 : goal.overflow_cast-numbers-9
overflow_cast-numbers-9 c = omega (arith, c.struct_known-9-1.given.1.1.1.1.1.1.1.1.1.0)

pub returns : goal.returns
returns c =
    rw c.expected.ensures
