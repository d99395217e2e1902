-- `idr_list_text::records::list_record` meets its contract: a line by the reader's answer. Assumes nothing.
use native.Mathlib.Omega.{arith}
use Rattle.text.proofs.Laid.{then}
use Rattle.idr_list_text.specs.Text.{untagged_text}
use Rattle.idr_list_text.proofs.Found.{tagged-says, untagged-says, refused-number, refused_says}
use Rattle.idr_list_text.proofs.records.list_record.Goals as goal

pub put_source-a-requires : goal.put_source-a-requires
put_source-a-requires c =
    let e = rw c.in-Ok-Some.field-0-is at c.in-Ok-Some.ensures in
    let f = tagged-says c.args.r.now c.args.place c.in-Ok-Some.tagged e in
    (omega arith, f.taken)

pub returns-in-Ok-Some : goal.returns-in-Ok-Some
returns-in-Ok-Some c =
    let e = rw c.in-Ok-Some.field-0-is at c.in-Ok-Some.ensures in
    let f = tagged-says c.args.r.now c.args.place c.in-Ok-Some.tagged e in
    let a = c.put_source-a.ensures in
    let b = c.put_time-b.ensures in
    let d = c.put_reduction-end.ensures in
    let text = then (then a.puts b.puts (omega arith)) d.puts (omega arith) in
    record { lists_one = record { puts = rw (← f.text) text; goes = rw f.taken }; end_bound = omega arith }

pub put_source-a-requires-in-Ok-None : goal.put_source-a-requires-in-Ok-None
put_source-a-requires-in-Ok-None c =
    let e = rw c.in-Ok-None.field-0-is at c.in-Ok-None.ensures in
    let f = untagged-says c.args.r.now c.args.place e in
    (omega arith, f.taken)

pub put_untagged-end-requires : goal.put_untagged-end-requires
unfolding untagged_text
put_untagged-end-requires c = let a = c.put_source-a-in-Ok-None.ensures in omega arith

pub returns-in-Ok-None : goal.returns-in-Ok-None
unfolding untagged_text
returns-in-Ok-None c =
    let e = rw c.in-Ok-None.field-0-is at c.in-Ok-None.ensures in
    let f = untagged-says c.args.r.now c.args.place e in
    let a = c.put_source-a-in-Ok-None.ensures in
    let b = c.put_untagged-end.ensures in
    let text = then a.puts b (omega (arith, b.end)) in
    record { lists_one = record { puts = rw (← f.text) text; goes = rw f.taken }; end_bound = omega (arith, b.end) }

pub stop-requires : goal.stop-requires
stop-requires c =
    let e = c.in-Err.ensures in
    refused-number c.args.r.now c.args.place c.in-Err.why e

pub returns-in-Err : goal.returns-in-Err
returns-in-Err c =
    let e = c.in-Err.ensures in
    let f = refused_says c.args.r.now c.args.place c.in-Err.why e in
    let a = rw c.stop.ensures at c.put_last-end.ensures in
    record { lists_one = record { puts = rw (← f.text) a.puts; goes = rw f.taken }; end_bound = a.upper_bound }
