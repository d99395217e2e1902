-- `sfdu_list::main` runs a listing whose first line and windows have room. Assumes nothing.
use lib.Dec.{lit<, lit≤}
use mathlib.Core.Path.{refl}
use Rattle.streaming.specs.inner.Turn.{Sized}
use Rattle.sfdu_list_text.specs.Text.{heading}
use Rattle.sfdu_list_text.specs.Window.{of_streams}
use Rattle.sfdu_list.proofs.main.Goals as goal

sized : Sized of_streams
unfolding heading
sized = record { some = lit< tt; small = lit≤ tt; text = lit≤ tt; more = lit≤ tt }

pub run-requires : goal.run-requires
run-requires c = (sized, refl)
