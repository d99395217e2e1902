-- The promise of a run. Assumes nothing.
use Rattle.streaming.proofs.Promised.{promised}
use Rattle.idr_list_text.specs.Run.{of_tapes, Promise}

pub promise : Promise
promise = promised of_tapes
