-- `call_script_text::records::write_one` is safe. Assumes nothing.
use Rattle.call_script_text.proofs.Room.{within, first-length}
use Rattle.call_script_text.proofs.records.write_one.Goals as goal

pub slice_bounds-room-end : goal.slice_bounds-room-end
slice_bounds-room-end c = within _ 165 _ c.if-z-gt-MOST_SLICE.false

pub slice_bounds-lent-end : goal.slice_bounds-lent-end
slice_bounds-lent-end c = first-length _ 165 _ c.if-z-gt-MOST_SLICE.false
