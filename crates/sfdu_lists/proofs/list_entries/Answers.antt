-- `sfdu_lists::list_entries` meets its contract. Assumes nothing.
use mathlib.Core.Path.{refl}
use Rattle.sfdu_lists.proofs.Rows.{begins, stores, finished}
use Rattle.sfdu_lists.proofs.list_entries.Goals as goal

pub loop-turn-init : goal.loop-turn-init
loop-turn-init c = begins _ _ _ refl

pub loop-turn-preserved : goal.loop-turn-preserved
loop-turn-preserved c = (stores _ _ _ _ _ _ c.loop-turn.invariant _ c.in-Ok.ensures).then

pub returns-in-Err : goal.returns-in-Err
returns-in-Err c = finished _ _ _ _ _ _ c.loop-turn.invariant _ c.in-Err.ensures
