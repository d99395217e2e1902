-- `sfdu_headers::rsr::read_fields` meets its contract. Assumes nothing.
use mathlib.Core.List.{◌++◌}
use Rattle.sfdu.specs.declared.Kind.TheVariants.{Rsr}
use Rattle.sfdu.specs.Read.{primary_words}
use Rattle.sfdu_headers.specs.Headers.{source_words, signal_words, time_words, fields_of}
use Rattle.sfdu_headers.proofs.Accept.{same-accepted, rsr-key, joined}
use Rattle.sfdu_headers.proofs.rsr.read_fields.Goals as goal

pub returns : goal.returns
returns c =
    let s = c.args.s.now in
    let fields = source_words c.read_source-source.result ++ signal_words c.read_signal-signal.result ++ time_words c.read_time-time.result in
    let same = joined (source_words c.read_source-source.result) _ (signal_words _) _
    (time_words _) _ c.read_source-source.ensures c.read_signal-signal.ensures c.read_time-time.ensures in
    let key = rsr-key s c.read_source-source.result _ c.read_source-source.ensures c.rsr_key_of-key.ensures in
    same-accepted Rsr _ _ (primary_words c.args.primary) _ fields (fields_of Rsr s) _ _ _ _ c.requires.0 c.requires.1 same key
    c.requires.3
