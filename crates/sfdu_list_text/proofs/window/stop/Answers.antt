-- `sfdu_list_text::window::stop` meets its contract: read one's refusal, or 17, once the window says so. Assumes nothing.
use native.Mathlib.Omega.{arith}
use mathlib.Core.Path.{◌≡◌, sym, ap}
use Rattle.refusals.specs.Table.{number_of}
use Rattle.sfdu.specs.Read.{fault_words}
use Rattle.streaming.specs.Window.{Told, stop_of}
use Rattle.sfdu.proofs.Within.{second-inside}
use Rattle.sfdu_list_text.proofs.Judging.{stop-waits, stop-end, stop-told}
use Rattle.sfdu_list_text.proofs.window.stop.Goals as goal

pub stop_in-stop-requires : goal.stop_in-stop-requires
stop_in-stop-requires c =
    omega (arith, c.requires.1, second-inside c.args.s.now (number_of c.args.fault.refusal) c.args.fault.at (sym c.requires.2))

pub returns-then-is_count-last : goal.returns-then-is_count-last
returns-then-is_count-last c =
    let numbered : number_of c.stop_in-stop.result.refusal ≡ (stop_of c.args.place c.args.s.now (fault_words c.args.fault)).number =
    ap (λ (t : Told). t.number) c.stop_in-stop.ensures in
    let waits = rw (c.is_count.ensures, numbered) at c.if-is_count-last.true in
    stop-waits c.args.s.now c.requires.0 _ _ c.requires.2 c.args.place c.args.last waits

pub returns-then-s-eq0 : goal.returns-then-s-eq0
returns-then-s-eq0 c =
    let numbered : number_of c.stop_in-stop.result.refusal ≡ (stop_of c.args.place c.args.s.now (fault_words c.args.fault)).number =
    ap (λ (t : Told). t.number) c.stop_in-stop.ensures in
    let known = rw (c.is_count.ensures, numbered) at c.if-is_count-last.false in
    stop-end c.args.s.now c.requires.0 _ _ c.requires.2 c.args.place c.args.last known c.if-s-eq0.true

pub returns : goal.returns
returns c =
    let numbered : number_of c.stop_in-stop.result.refusal ≡ (stop_of c.args.place c.args.s.now (fault_words c.args.fault)).number =
    ap (λ (t : Told). t.number) c.stop_in-stop.ensures in
    let known = rw (c.is_count.ensures, numbered) at c.if-is_count-last.false in
    rw (numbered, ap (λ (t : Told). t.beside) c.stop_in-stop.ensures) (stop-told c.args.s.now c.requires.0 _ _ c.requires.2 c.args.place c.args.last known c.if-s-eq0.false)
