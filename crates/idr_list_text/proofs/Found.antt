-- What the reader's answer says of what stands at a place, and so its line. Assumes nothing.
use Prim.Native.Nat.{ℕ, ◌/◌, ◌%◌, ◌<◌}
use native.Mathlib.Omega.{arith}
use mathlib.Core.Bool.{Bool, true, false}
use mathlib.Core.List.{List, [], ◌∷◌, ◌++◌, append_assoc}
use mathlib.Core.Path.{◌≡◌, refl, sym, ap, ◌∙◌}
use lib.Dec.{lit<}
use lib.ListN.{length, get_or}
use Rattle.refusals.specs.declared.Refusal.{Refusal}
use Rattle.refusals.specs.Judge.{verdict}
use Rattle.refusals.specs.Table.{number_of}
use Rattle.refusals.proofs.Judged.{Outcome, none, first, outcome, none-judge, first-judge}
use Rattle.refusals.proofs.Laws.{number-positive}
use Rattle.octets.proofs.Laws.{Bytes, number_lt}
use Rattle.std.specs.Prelude.{Some, None, Ok, Err}
use Rattle.idr.specs.declared.Tagged.{Tagged}
use Rattle.idr.specs.Words.{header_count, header, bits, field_of}
use Rattle.idr.specs.Fields.{tagged, fields_of, day, hour, minute, second, micros, playback, sampling, decimation_of}
use Rattle.idr.specs.Read.{words_of, read_rules, given_of, read_record, accepts, read_words}
use Rattle.idr.proofs.Header.{header-get}
use Rattle.idr.proofs.Judging.{judge-accepted, read-numbered, accepts-none, none-accepts, accepts-refused, answer-accepted, words-judged}
use Rattle.idr_list_text.specs.Text.{origin_text, source, time_text, reduction_text, untagged_text, line, last_line}
use Rattle.idr_list_text.specs.Listing.{stop_number, line_of}

-- ---- the answer

module _ (s rest : List ℕ) (e : 0 ∷ rest ≡ read_record s) where
  is-accepted : accepts s ≡ true
  is-accepted = accepts-none s (answer-accepted s rest (sym e))

  is-given : 0 ∷ rest ≡ given_of (header s)
  unfolding read_record
  is-given = e ∙ judge-accepted (λ n. n ∷ []) (read_rules s) (given_of (header s)) (read-numbered s) (answer-accepted s rest (sym e))

pub record Says (s : List ℕ) (place : ℕ) (b : Bool) (t : List ℕ) : Type 0 where
  pub taken : accepts s ≡ b
  pub text : t ≡ line_of place s

-- ---- tagged

module _ (s : List ℕ) (place : ℕ) (f : Tagged) (e : words_of (Ok (Some f)) ≡ read_record s) where
  is-tagged : tagged (header s) ≡ true
  is-tagged = by (tagged (header s)) refl
    where
      by : (b : Bool) → tagged (header s) ≡ b → b ≡ true
      by true h = refl
      by false h = let g : words_of (Ok (Some f)) ≡ 0 ∷ [] = rw h at (is-given s _ e) in cc

  fields-are : words_of (Ok (Some f)) ≡ 0 ∷ fields_of (header s)
  fields-are = rw is-tagged at (is-given s _ e)

  -- field k of the answer, behind its 0
  field_is : (k : ℕ) → get_or (words_of (Ok (Some f))) k 0 ≡ get_or (0 ∷ fields_of (header s)) k 0
  field_is k = ap (λ (l : List ℕ). get_or l k 0) fields-are

  time-is : time_text f.time.day f.time.hour f.time.minute f.time.second f.time.micros
      ≡ time_text (day (header s)) (hour (header s)) (minute (header s)) (second (header s)) (micros (header s))
  time-is =
      let d : f.time.day ≡ day (header s) = field_is 9 in
      let h : f.time.hour ≡ hour (header s) = field_is 10 in
      let m : f.time.minute ≡ minute (header s) = field_is 11 in
      let c : f.time.second ≡ second (header s) = field_is 12 in
      let u : f.time.micros ≡ micros (header s) = field_is 13 in
      rw (d, h, m, c, u)

  reduction-is : reduction_text f.reduction.playback f.reduction.sampling f.reduction.decimation
      ≡ reduction_text (playback (header s)) (sampling (header s)) (decimation_of (field_of (header s) 12 2 4))
  reduction-is =
      let b : f.reduction.playback ≡ playback (header s) = field_is 20 in
      let a : f.reduction.sampling ≡ sampling (header s) = field_is 21 in
      let x : f.reduction.decimation ≡ decimation_of (field_of (header s) 12 2 4) = field_is 23 in
      rw (b, a, x)

  pub tagged-says : Says s place true
      (source place (header s)
      ++ time_text f.time.day f.time.hour f.time.minute f.time.second f.time.micros
      ++ reduction_text f.reduction.playback f.reduction.sampling f.reduction.decimation)
  unfolding line_of line
  tagged-says = record { taken = is-accepted s _ e; text = rw (is-accepted s _ e, is-tagged, time-is, reduction-is, append_assoc) }

-- ---- not tagged

module _ (s : List ℕ) (place : ℕ) (e : words_of (Ok None) ≡ read_record s) where
  is-untagged : tagged (header s) ≡ false
  is-untagged = by (tagged (header s)) refl
    where
      by : (b : Bool) → tagged (header s) ≡ b → b ≡ false
      by false h = refl
      by true h = let f : 0 ∷ [] ≡ 0 ∷ fields_of (header s) = rw h at (is-given s [] e) in cc

  pub untagged-says : Says s place true (source place (header s) ++ untagged_text)
  unfolding line_of line
  untagged-says = record { taken = is-accepted s [] e; text = rw (is-accepted s [] e, is-untagged) }

-- ---- refused

module _ (s : List ℕ) (place : ℕ) (r : Refusal) (e : words_of (Err r) ≡ read_record s) where
  pub refused-number : number_of r ≡ verdict (read_rules s)
  unfolding read_record
  refused-number = by (outcome (read_rules s))
    where
      by : Outcome (read_rules s) → number_of r ≡ verdict (read_rules s)
      by (none n) =
          let f = e ∙ none-judge (λ n. n ∷ []) (read_rules s) (given_of (header s)) n in
          absurd (number-positive r (ap (λ (l : List ℕ). get_or l 0 0) f))
      by (first g f) =
          ap (λ (l : List ℕ). get_or l 0 0) (e ∙ first-judge (λ n. n ∷ []) (given_of (header s)) f) ∙ sym (first-judge (λ given. given) 0 f)

  pub refused_says : Says s place false (last_line place (stop_number s))
  unfolding line_of
  refused_says = let z = accepts-refused s r refused-number in record { taken = z; text = rw z }

-- ---- the words

pub words-there : (s list l : List ℕ) (x : List ℕ) → accepts s ≡ true → length list ≡ header_count → (x, l) ≡ read_words s list → l ≡ header s
words-there s list l x a h e =
    ap (λ (p : List ℕ × List ℕ). p.1)
    (e ∙ words-judged s list h ∙ judge-accepted (λ n. (n ∷ [], list)) (read_rules s) _ (read-numbered s) (none-accepts s a))

low_byte : (x : ℕ) → x % 256 ≡ bits x 9 16
unfolding bits
low_byte x = omega arith

high_byte : (x : ℕ) → x < 65536 → x / 256 ≡ bits x 1 8
unfolding bits
high_byte x h = omega arith

-- Tape, record number, spacecraft and station, from the words.
pub origin-there : (place : ℕ) (s l : List ℕ) → Bytes s → l ≡ header s
    → origin_text place (get_or l 0 0 % 256) (get_or l 1 0) (get_or l 3 0 / 256) (get_or l 3 0 % 256) ≡ source place (header s)
origin-there place s l b e =
    let small : get_or (header s) 3 0 < 65536 = rw (header-get s 3 (lit< tt)) (number_lt s 6 2 b) in
    rw (e, low_byte (get_or (header s) 0 0), high_byte (get_or (header s) 3 0) small, low_byte (get_or (header s) 3 0))
