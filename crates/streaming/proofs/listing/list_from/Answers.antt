-- `list_from` meets its contract: each turn goes on with the run, and one turn less is left. Assumes nothing.
use mathlib.Core.Bool.{true≢false}
use borrow.Author.Rules.{rules}
use native.Mathlib.Omega.{arith}
use Rattle.std.proofs.lemmas.Result.{err_from_is_err_and}
use Rattle.streaming.proofs.Turning.{under-begins, under_goes, under-ends, under-gives-up}
use Rattle.streaming.proofs.listing.list_from.Goals as goal

pub loop-turn-init : goal.loop-turn-init
loop-turn-init g c = under-begins g.L.Lister.listing _ _ _ c.requires.1

pub take_turn-requires : goal.take_turn-requires
take_turn-requires g c = (c.requires.0, c.loop-turn.invariant.round.going)

pub returns-in_err-take_turn : goal.returns-in_err-take_turn
returns-in_err-take_turn g c =
    let p = err_from_is_err_and c.from_residual.result c.from_residual.ensures.1 in
    rw (p.1, p.2)
    (under-ends g.L.Lister.listing _ _ _ _ _ _ _ c.loop-turn.invariant _ _ _ _ c.in_err-take_turn.ensures (λ f. absurd (true≢false f)))

pub returns-then-done : goal.returns-then-done
returns-then-done g c =
    under-ends g.L.Lister.listing _ _ _ _ _ _ _ c.loop-turn.invariant _ _ _ _ c.in_ok-take_turn.ensures (λ _. search rules)

pub loop-turn-preserved : goal.loop-turn-preserved
loop-turn-preserved g c =
    under_goes g.L.Lister.listing _ _ _ _ _ _ _ c.loop-turn.invariant _ _ _ _ c.in_ok-take_turn.ensures (search rules) (search rules)
    (search rules) (search rules) _ (omega arith) c.requires.0.small

pub returns : goal.returns
returns g c = under-gives-up g.L.Lister.listing _ _ _ _ _ _ _ c.loop-turn.invariant _ (omega arith)
