-- `rsr_samples::output::write_parts` meets its contract, and ends: each part goes on past the place where it begins. Assumes nothing.
use Rattle.std.proofs.Common.{◌≡◌, [], length, arith, rules}
use Rattle.rsr_samples_text.specs.Part.{begins, lays}
use Rattle.rsr_samples.proofs.output.write_parts.Goals as goal

pub loop-from-init : goal.loop-from-init
loop-from-init c = (search rules, search rules, record { text = []; calls = begins })

pub loop-from-smaller : goal.loop-from-smaller
loop-from-smaller c =
    omega (arith, c.lay_out-laid.ensures.goes c.loop-from-test.true)

pub loop-from-preserved : goal.loop-from-preserved
loop-from-preserved c =
    let so_far = c.loop-from.invariant.2 in
    (search rules, search rules, record { text = _; calls = lays so_far.calls c.lay_out-laid.ensures })

pub returns : goal.returns
returns c =
    λ e. let end : c.loop-from.from ≡ length c.args.list.now = omega arith in
    rw end at c.loop-from.invariant.2
