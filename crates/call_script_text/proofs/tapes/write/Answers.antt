-- `call_script_text::tapes::write` is safe. Assumes nothing.
use Rattle.call_script_text.proofs.Room.{within, first-length}
use Rattle.call_script_text.proofs.tapes.write.Goals as goal

pub slice_bounds-header-end : goal.slice_bounds-header-end
slice_bounds-header-end c = within _ 0 _ c.if-n-gt-MOST_HEADER.false

pub slice_bounds-words-end : goal.slice_bounds-words-end
slice_bounds-words-end c = first-length _ 0 _ c.if-n-gt-MOST_HEADER.false
