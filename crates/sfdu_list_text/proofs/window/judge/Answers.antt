-- `sfdu_list_text::window::judge` meets its contract, from what read one answers. Assumes nothing.
use native.Mathlib.Omega.{arith}
use Prim.Native.Nat.{◌≤◌}
use mathlib.Core.Path.{ap, sym, ◌∙◌}
use Rattle.sfdu.specs.Read.{words_of, primary_words, record_length}
use Rattle.sfdu.proofs.Accepted.{found}
use Rattle.sfdu.proofs.Parts.{room}
use Rattle.sfdu_headers.proofs.Numbers.{number-long}
use Rattle.sfdu_list_text.specs.Listing.{buffer_size}
use Rattle.sfdu_list_text.proofs.Judging.{accepted-whole, records}
use Rattle.sfdu_list_text.proofs.window.judge.Goals as goal

pub stop-requires : goal.stop-requires
stop-requires c =
    (c.requires.0, c.requires.1, sym (ap words_of c.in-Err.is) ∙ c.read_one.ensures)

pub returns-in-Ok : goal.returns-in-Ok
returns-in-Ok c =
    let s = c.args.s.now in
    let f = found s c.in-Ok.record.kind c.in-Ok.record.size (primary_words c.in-Ok.record.primary) (sym (ap words_of c.in-Ok.is) ∙ c.read_one.ensures) in
    let within = room s _ _ _ f in
    let fits : record_length s ≤ buffer_size = omega (arith, f.size, within, c.requires.0) in
    records c.args.place s c.args.last c.in-Ok.record.kind c.in-Ok.record.size c.record_number.result (accepted-whole s f.accepted fits) f.kind f.size
    (c.record_number.ensures ∙ number-long c.in-Ok.record.kind s (omega (arith, within)))
