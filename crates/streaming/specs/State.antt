-- The state of a listing. Assumes nothing.
use Rattle.streaming.specs.declared.State.{State}

-- The state after the text was written and its buffer is empty again.
abbrev pub emptied : State → State
emptied s = record { place = s.place; have = s.have; text = 0; done = s.done }
