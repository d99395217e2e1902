-- `sfdu_headers::call::stream_key` meets its contract. Assumes nothing.
use Rattle.sfdu_headers.proofs.call.stream_key.Goals as goal

pub stream_key-requires : goal.stream_key-requires
stream_key-requires c = rw c.in-Telemetry.is at c.requires

pub stream_key-requires-in-Rsr : goal.stream_key-requires-in-Rsr
stream_key-requires-in-Rsr c = rw c.in-Rsr.is at c.requires

pub returns-in-Telemetry : goal.returns-in-Telemetry
returns-in-Telemetry c = rw c.in-Telemetry.is c.stream_key.ensures

pub returns-in-Rsr : goal.returns-in-Rsr
returns-in-Rsr c = rw c.in-Rsr.is c.stream_key-in-Rsr.ensures
