-- `take_turn` meets its contract, from what its calls ensure. Assumes nothing.
use borrow.Author.Rules.{rules}
use Rattle.streaming.proofs.Turning.{turn-fails, turn-lists}
use Rattle.streaming.proofs.listing.take_turn.Goals as goal

pub returns-in-Err : goal.returns-in-Err
returns-in-Err g c = turn-fails _ _ _ _ _ _ c.requires.1 c.in-Err.ensures c.in-Err.failure

pub returns-in-Ok : goal.returns-in-Ok
returns-in-Ok g c =
    turn-lists _ _ _ _ _ _ c.requires.1 c.in-Ok.ensures _ _ _ _ _ (search rules) (search rules)
    c.list_piece.ensures c.requires.0.more c.write_enough.ensures
