-- The promise of the program: the text that all turns write is the listing of the whole stream, in whatever pieces it is read. Assumes nothing.
-- The manual, docs/INTERFACE.md: "The listing program".
use Rattle.streaming.specs.Run as streaming
use Rattle.sfdu_list_text.specs.Window.{of_streams}

abbrev pub Promise : Type 0
Promise = streaming.Promise of_streams
