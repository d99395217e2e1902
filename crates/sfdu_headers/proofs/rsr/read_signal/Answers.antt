-- `sfdu_headers::rsr::read_signal` meets its contract. Assumes nothing.
use borrow.Author.Rules.{sfits_of}
use mir.Syntax.{w8}
use mir.ValLaws.{to_z-of_z}
use Rattle.sfdu_headers.proofs.rsr.read_signal.Goals as goal

pub returns : goal.returns
returns c =
    rw (
      to_z-of_z w8 _ (sfits_of c.signed-expected.type_inv),
      c.signed-expected.ensures,
    )
