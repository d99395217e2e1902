-- The label of a record that is too long for the window. Assumes nothing.
use Prim.Native.Nat.{ℕ, ◌+◌, ◌-◌}
use native.Mathlib.Omega.{arith}
use mathlib.Core.Bool.{Bool, true, false}
use mathlib.Core.List.{List}
use mathlib.Core.Path.{◌≡◌, refl, sym, ◌∙◌}
use borrow.Author.Tests.{ltb-true, ltb-false, lt-ltb, le-ltb}
use lib.Dec.{ltb}
use Rattle.sfdu.specs.Nesting.{label_size}
use Rattle.sfdu.specs.Read.{record_length, fault_words}
use Rattle.sfdu.specs.declared.Fault.{Fault}
use Rattle.streaming.specs.Window.{window_size, is_over, stop_of}

-- a label that says more bytes than the window has, or not
pub long-label : (s : List ℕ) (after : ℕ) → record_length s ≡ label_size + after → ltb (window_size - label_size) after ≡ ltb window_size (record_length s)
long-label s after e = by (ltb (window_size - label_size) after) refl
  where
    by : (b : Bool) → ltb (window_size - label_size) after ≡ b → ltb (window_size - label_size) after ≡ ltb window_size (record_length s)
    by true t =
        let more = ltb-true (window_size - label_size) after t in
        t ∙ sym (lt-ltb window_size (record_length s) (omega arith))
    by false t =
        let less = ltb-false (window_size - label_size) after t in
        t ∙ sym (le-ltb window_size (record_length s) (omega arith))

pub over-stop : (place : ℕ) (s : List ℕ) (f : Fault) → is_over s (fault_words f) ≡ true → record { number = 17; beside = 0 } ≡ stop_of place s (fault_words f)
unfolding stop_of
over-stop place s f over = rw over
