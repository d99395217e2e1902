-- The words of the headers of one kind, or of the refusal of a field. Assumes nothing.
use Rattle.std.specs.Prelude.{List, map, Result, Ok, Err}
use Rattle.sfdu.specs.declared.Fault.{Fault}
use Rattle.sfdu.specs.Read.{fault_words}
use Rattle.sfdu_headers.specs.Words.{Word, number}

abbrev pub found_words : {A : Type 0} → (values : A → List Word) → Result A Fault → List Word
found_words values (Ok headers) = values headers
found_words values (Err f) = map number (fault_words f)
