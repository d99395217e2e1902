-- The records of the worked examples. Assumes nothing.
use Rattle.std.specs.Prelude.{ℕ, List, [], ◌∷◌, ◌++◌, replicate}
use Rattle.octets.specs.Octets.{bytes_of, put}
use Rattle.sfdu.specs.declared.Kind.{Kind}
use Rattle.sfdu.specs.declared.Kind.TheVariants.{Telemetry, Rsr}
use Rattle.sfdu.specs.declared.Primary.{Primary}
use Rattle.sfdu.specs.Nesting.{length_at, length_size, secondary_length}
use Rattle.sfdu_write.specs.Write.{record_bytes}

-- The primary value of an RSR record. No call tests telemetry's.
abbrev pub primary : Primary
primary = record { major = 21; minor = 4; mission = 255; format = 0 }

-- A record with these bytes at the start of its secondary value, then `spare` zeros, and `value` zeros as data.
abbrev pub sample : Kind → (start : List ℕ) (spare value : ℕ) → List ℕ
sample k start spare value = record_bytes k primary (start ++ replicate spare 0) (replicate value 0)

abbrev pub plain : Kind → (value : ℕ) → List ℕ
plain k value = sample k [] (secondary_length k) value

-- The same record with another length in its label.
abbrev pub relabelled : (length : ℕ) → List ℕ → List ℕ
relabelled length s = put s length_at (bytes_of length_size length)

-- P4: bytes 6 and 7 of the secondary block are 254 and 5. The value starts at byte 4.
abbrev pub p4 : List ℕ
p4 = sample Telemetry (0 ∷ 0 ∷ 254 ∷ 5 ∷ []) 76 0

-- P6: an RSR record with this byte for Px/No, byte 22: bands S and X, mode 1, bandwidth 1, year 1900, day 1.
abbrev pub p6 : ℕ → List ℕ
p6 byte = sample Rsr (replicate 14 0 ++ (83 ∷ 88 ∷ 1 ∷ 0 ∷ byte ∷ 1 ∷ 0 ∷ 0 ∷ 0 ∷ 0 ∷ 7 ∷ 108 ∷ 0 ∷ 1 ∷ [])) 192 0
