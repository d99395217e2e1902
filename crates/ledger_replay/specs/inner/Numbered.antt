-- The numbers of calls, and the entries that have such a number. Assumes nothing.
use Rattle.std.specs.Prelude.{ℕ, cond, eqb, Result, Ok, Err}
use Rattle.refusals.specs.declared.Refusal.{Refusal}
use Rattle.refusals.specs.declared.Refusal.TheVariants.{NotTrace}
use Rattle.ledger_replay.specs.declared.Call.{Call}
use Rattle.ledger_replay.specs.declared.Call.TheVariants.{Enrol, Open, Tick, Untick, Save, Drop, Strike}
use Rattle.ledger_replay.specs.declared.Line as Code
use Rattle.ledger_replay.specs.Trace.{Line, enrol_call, open_call, tick_call, untick_call, save_call, drop_call, strike_call}

abbrev pub call_number : Call → ℕ
call_number Enrol = enrol_call
call_number Open = open_call
call_number Tick = tick_call
call_number Untick = untick_call
call_number Save = save_call
call_number Drop = drop_call
call_number Strike = strike_call

-- The call with this number; a refusal if no call has it.
abbrev pub call_numbered : ℕ → Result Call Refusal
call_numbered n =
    cond (eqb n enrol_call) (Ok Enrol)
    (cond (eqb n open_call) (Ok Open)
    (cond (eqb n tick_call) (Ok Tick)
    (cond (eqb n untick_call) (Ok Untick)
    (cond (eqb n save_call) (Ok Save)
    (cond (eqb n drop_call) (Ok Drop)
    (cond (eqb n strike_call) (Ok Strike) (Err NotTrace)))))))

-- The fields of an entry, as numbers.
abbrev pub numbers_of : Code.Line → Line
numbers_of x =
    record { call = call_number x.call; desk = x.desk; row = x.row; answer = x.answer; number = x.number; key = x.key }

-- The entry with these fields; a refusal if no call has its number.
abbrev pub with_call : Line → Result Call Refusal → Result Code.Line Refusal
with_call x (Ok call) = Ok (record { call = call; desk = x.desk; row = x.row; answer = x.answer; number = x.number; key = x.key })
with_call x (Err r) = Err r

abbrev pub line_in : Line → Result Code.Line Refusal
line_in x = with_call x (call_numbered x.call)
