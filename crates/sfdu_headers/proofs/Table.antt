-- The table of judged bytes, entry by entry. Assumes nothing.
use Prim.Native.Nat.{ℕ, ◌+◌, ◌<◌}
use native.Mathlib.Numerals.{add-one}
use mathlib.Core.Bool.{true, false}
use mathlib.Core.List.{List, map}
use mathlib.Core.Path.{◌≡◌, refl}
use borrow.Author.Tests.{ltb-true}
use lib.Dec.{ltb}
use lib.ListN.{length, get_or, drop}
use lib.Seq.{drop-cons}
use Rattle.refusals.specs.Judge.{judge}
use Rattle.std.specs.Prelude.{Result, Ok, Err}
use Rattle.refusals.specs.declared.Refusal.TheVariants.{FieldRange}
use Rattle.sfdu.specs.declared.Fault.{Fault}
use Rattle.sfdu.specs.inner.Checked.{checked}
use Rattle.octets.specs.Octets.{all}
use Rattle.octets.proofs.Laws.{all-at}
use Rattle.sfdu_headers.specs.declared.Allowed.TheVariants.{Between}
use Rattle.sfdu_headers.specs.declared.ByteRule.{ByteRule}
use Rattle.sfdu_headers.specs.Ranges.{in_range, judged_bytes, byte_rule, byte_rules}

abbrev pub entries : ℕ
entries = 10

-- What stands past the table's end.
abbrev no_field : ByteRule
no_field = record { at = 0; allowed = Between 0 0 }

-- What is left to judge from entry i on.
unfoldable pub fault_from : List ℕ → ℕ → Result (Unit {0}) Fault
fault_from s i = checked FieldRange (map (byte_rule s) (drop i judged_bytes))

pub from_start : (s : List ℕ) → checked FieldRange (byte_rules s) ≡ fault_from s 0
unfolding fault_from
from_start s = refl

pub from_end : (s : List ℕ) → fault_from s entries ≡ Ok tt
unfolding fault_from judged_bytes judge
from_end s = refl

length-judged : length judged_bytes ≡ entries
unfolding judged_bytes
length-judged = refl

-- Entry i of a table that is the specification's: a byte out of range decides, one in range leaves it to the next entry; every
-- entry lies before the year.
module _ (table : List ByteRule) (same : table ≡ judged_bytes) (i : ℕ) (h : i < entries) where
  pub fault-here : (s : List ℕ) → in_range (get_or table i no_field).allowed (get_or s (get_or table i no_field).at 0) ≡ false
      → fault_from s i ≡ Err (record { refusal = FieldRange; at = (get_or table i no_field).at })
  unfolding fault_from judge
  fault-here s e =
      let l : i < length judged_bytes = rw length-judged h in
      rw (same, drop-cons judged_bytes i no_field, rw same at e)

  pub fault_past : (s : List ℕ) → in_range (get_or table i no_field).allowed (get_or s (get_or table i no_field).at 0) ≡ true
      → fault_from s i ≡ fault_from s (i + 1)
  unfolding fault_from judge
  fault_past s e =
      let l : i < length judged_bytes = rw length-judged h in
      rw (add-one, drop-cons judged_bytes i no_field, rw same at e)

  pub at_low : (get_or table i no_field).at < 60
  unfolding judged_bytes all
  at_low = rw same (ltb-true _ _ (all-at entries i (λ k. ltb (get_or judged_bytes k no_field).at 60) refl h))
