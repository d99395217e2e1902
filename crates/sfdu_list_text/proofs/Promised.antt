-- The promise of a run. Assumes nothing.
use Rattle.streaming.proofs.Promised.{promised}
use Rattle.sfdu_list_text.specs.Window.{of_streams}
use Rattle.sfdu_list_text.specs.Run.{Promise}

pub promise : Promise
promise = promised of_streams
