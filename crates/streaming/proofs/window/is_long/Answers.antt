-- A label says the length behind itself. Assumes nothing.
use Rattle.std.proofs.Common.{length, arith}
use borrow.Author.Tests.{le-leb}
use Rattle.sfdu.specs.Nesting.{label_size}
use Rattle.sfdu.specs.Read.{label_length, record_length}
use Rattle.streaming.proofs.Labels.{long-label}
use Rattle.streaming.proofs.window.is_long.Goals as goal

pub returns : goal.returns
unfolding record_length label_length
returns c =
    let s = c.args.s.now in
    rw (le-leb label_size (length s) (omega arith)) (long-label s c.read_be-after.result (omega (arith, c.read_be-after.ensures)))
