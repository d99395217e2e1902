-- The law of `specs/Keys.antt`, and that a telemetry record's spacecraft has ten bits. Assumes nothing.
use Prim.Native.Nat.{ℕ, ◌+◌, ◌<◌, ◌^◌}
use native.Mathlib.Omega.{arith}
use mathlib.Core.List.{List}
use mathlib.Core.Path.{◌≡◌}
use Rattle.octets.specs.Octets.{number_at}
use Rattle.octets.proofs.Laws.{Bytes}
use Rattle.keys.specs.Stream.{telemetry, rsr}
use Rattle.keys.proofs.Laws.{telemetry-answers, rsr-answers, made-valid}
use Rattle.sfdu.specs.declared.Kind.TheVariants.{Telemetry, Rsr}
use Rattle.sfdu.specs.Nesting.{secondary_at}
use Rattle.sfdu_headers.specs.declared.TelemetryFields.{TelemetryFields}
use Rattle.sfdu_headers.specs.Fields.{spacecraft, source, equipment, virtual_stream, rsr_spacecraft, station, receiver, subchannel}
use Rattle.sfdu_headers.specs.Headers.{telemetry_field_words, fields_of, key_of}
use Rattle.sfdu_headers.specs.Keys.{EveryKey}

pub every-key : EveryKey
unfolding number_at
every-key Telemetry s bytes =
    let made = telemetry-answers (spacecraft s) (source s) (equipment s) (virtual_stream s) record {
      one = omega (arith, bytes (secondary_at + 6), bytes (secondary_at + 7));
      two = bytes _;
      three = omega (arith, bytes (secondary_at + 74 + 0), bytes (secondary_at + 74 + 1));
      four = bytes _;
    } in
    record { made = made; valid = made-valid (telemetry (spacecraft s) (source s) (equipment s) (virtual_stream s)) (key_of Telemetry s) made }
every-key Rsr s bytes =
    let made = rsr-answers (rsr_spacecraft s) (station s) (receiver s) (subchannel s) record {
      one = bytes _;
      two = bytes _;
      three = bytes _;
      four = bytes _;
    } in
    record { made = made; valid = made-valid (rsr (rsr_spacecraft s) (station s) (receiver s) (subchannel s)) (key_of Rsr s) made }

-- The fields that were read: the spacecraft is one that a key takes.
pub spacecraft-fits : (s : List ℕ) (f : TelemetryFields) → Bytes s → telemetry_field_words f ≡ fields_of Telemetry s → f.spacecraft < 2 ^ 10
spacecraft-fits s f bytes e =
    let same : f.spacecraft ≡ spacecraft s = cc in
    let low : spacecraft s < 2 ^ 10 = omega (arith, (bytes (secondary_at + 6)).fits, (bytes (secondary_at + 7)).fits) in
    omega arith
