-- `list_whole` meets its contract: a run begins, and goes on to its end. Assumes nothing.
use borrow.Author.Rules.{rules}
use Rattle.text.proofs.Laid.{grown}
use Rattle.streaming.proofs.Turning.{round-begins, whole-ends}
use Rattle.streaming.proofs.listing.list_whole.Goals as goal

pub list_from-requires : goal.list_from-requires
list_from-requires g c =
    (c.requires.0, round-begins g.L.Lister.listing _ _ _ c.requires.0 c.begin.ensures.0 (search rules) (search rules))

pub returns : goal.returns
returns g c =
    let began = c.begin.ensures in
    whole-ends g.L.Lister.listing _ _ _ _ _ _ _ began.0 (grown began.1) c.list_from.ensures
