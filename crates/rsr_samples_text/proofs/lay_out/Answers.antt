-- `rsr_samples_text::lay_out` meets its contract: what is laid out so far is the text of the numbers up to i, and each number takes some
-- bytes at most, so that a part with no room left is not empty. Assumes nothing.
use native.Mathlib.Omega.{arith}
use mathlib.Core.Path.{◌≡◌, ap, ◌∙◌, subst}
use lib.IntN.{pos}
use lib.ListN.{get_or, length}
use mir.Syntax.{w32}
use mir.ValLaws.{to_z-of_z}
use borrow.Author.Rules.{rules, sfits_of}
use Rattle.text.specs.Text.{Puts}
use Rattle.text.proofs.Laid.{then, nothing}
use Rattle.rsr_samples_text.specs.Text.{number_text}
use Rattle.rsr_samples_text.proofs.Laws.{part_none, part-more}
use Rattle.rsr_samples_text.proofs.lay_out.Goals as goal

pub loop-i-init : goal.loop-i-init
loop-i-init c = (search rules, search rules, search rules, search rules, search rules, search rules, rw part_none (nothing _ _))

pub returns-then-room-at : goal.returns-then-room-at
returns-then-room-at c =
    let inv = c.loop-i.invariant in
    record { puts = inv.6; room = inv.5; least = inv.2; most = inv.3; goes = λ h. omega arith }

pub loop-i-preserved : goal.loop-i-preserved
loop-i-preserved c =
    let inv = c.loop-i.invariant in
    let i = c.loop-i.i in
    let list = c.args.list.now in
    let raw = c.args.raw in
    let z = to_z-of_z w32 (get_or list i (pos 0)) (sfits_of c.z-1.given) in
    let one = subst (Puts _ _ _ _) (ap (number_text raw i) z) c.put_number-at.ensures.puts in
    let more = part-more raw list c.args.from i inv.2 (omega arith) in
    let p = subst (Puts _ _ _ _) more (then inv.6 one (omega arith)) in
    (omega arith, c.out-1.given ∙ inv.1, omega arith, omega arith, omega arith, omega arith, p)

pub returns : goal.returns
returns c =
    let end : c.loop-i.i ≡ length c.args.list.now = omega arith in
    let inv = rw end at c.loop-i.invariant in
    record { puts = inv.6; room = inv.5; least = inv.2; most = inv.3; goes = λ h. h }
