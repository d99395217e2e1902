-- What is told of a stop that a function gives. Assumes nothing.
use Rattle.refusals.specs.Table.{number_of}
use Rattle.streaming.specs.declared.window.Stop.{Stop}
use Rattle.streaming.specs.Window.{Told}

abbrev pub told : Stop → Told
told stop = record { number = number_of stop.refusal; beside = stop.beside }
