-- A record's data part is bytes. Assumes nothing.
use Rattle.std.proofs.Common.{◌≡◌, ℕ, Bool, true, false, List, refl, lit<}
use Rattle.octets.proofs.Laws.{Bytes}
use Rattle.octets.proofs.Parts.{bytes-part}
use Rattle.sfdu.specs.Nesting.{data_value_at}
use Rattle.sfdu.specs.Read.{kind_of, accepts, data_part}

pub bytes-data : (s : List ℕ) → Bytes s → Bytes (data_part s)
unfolding data_part
bytes-data s b = by (accepts s) refl
  where
    by : (t : Bool) → accepts s ≡ t → Bytes (data_part s)
    by true e = rw e (bytes-part s (data_value_at (kind_of s)) _ b)
    by false e = rw e (λ k. record { fits = lit< tt })
