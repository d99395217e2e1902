-- `rsr_samples::write_stream` is safe and ends: so many records are counted that the place fits. Assumes nothing.
use Rattle.std.proofs.Common.{◌≡◌, ◌+◌, ◌-◌, ◌*◌, ◌^◌, ◌≤◌, length}
use Rattle.streaming.specs.Turn.{most_turns}
use Rattle.streaming.specs.Window.{window_size}
use Rattle.rsr_samples.proofs.write_stream.Given as goal

abbrev pub invariant-loop-turn : goal.invariant-loop-turn
invariant-loop-turn g l =
    (length l.w ≡ length l.initial.w) × (length l.list ≡ length l.initial.list) ×
    (length l.out ≡ length l.initial.out) × (l.place + (most_turns - l._turn) * window_size ≤ 2 ^ 63)
