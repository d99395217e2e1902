-- `idr_list::main` runs a listing whose first line and windows have room. Assumes nothing.
use lib.Dec.{lit<, lit≤}
use mathlib.Core.Path.{refl}
use Rattle.streaming.specs.inner.Turn.{Sized}
use Rattle.idr_list_text.specs.Text.{heading}
use Rattle.idr_list_text.specs.Run.{of_tapes}
use Rattle.idr_list.proofs.main.Goals as goal

sized : Sized of_tapes
unfolding heading
sized = record { some = lit< tt; small = lit≤ tt; text = lit≤ tt; more = lit≤ tt }

pub run-requires : goal.run-requires
run-requires c = (sized, refl)
