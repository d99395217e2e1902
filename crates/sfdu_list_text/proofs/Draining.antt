-- The loop of `drain`: what holds each time it comes round. Assumes nothing.
use Prim.Native.Nat.{ℕ, ◌+◌, ◌-◌, ◌*◌, ◌≤◌, ◌<◌, ◌^◌}
use native.Mathlib.Omega.{arith}
use mathlib.Core.Bool.{Bool, true, false, false≢true}
use mathlib.Core.List.{List, [], ◌∷◌, ◌++◌}
use mathlib.Core.Path.{◌≡◌, refl, ap, ◌∙◌}
use lib.ListN.{length, take, drop, length-drop}
use lib.Seq.{take-length}
use Rattle.text.specs.Text.{Puts}
use Rattle.sfdu.specs.declared.Kind.{Kind}
use Rattle.sfdu.specs.Nesting.{kind_number}
use Rattle.sfdu_list_text.specs.Text.{line, last_line, most_last}
use Rattle.sfdu_list_text.specs.inner.Room.{line_room}
use Rattle.sfdu_list_text.specs.Listing.{buffer_size}
use Rattle.sfdu_list_text.specs.Window.{cut_short, most_text}
use Rattle.sfdu_list_text.specs.inner.Window.{Record, More, Stop, Drains, found_in}
use Rattle.sfdu_list_text.proofs.Judging.{whole-record, FoundRecord, FoundStop, found-record, found-stop, found-more}
use Rattle.text.proofs.Laid.{nothing, then}
use Rattle.sfdu_list_text.proofs.Streams.{Underway, begins, goes, stops}

-- ---- what the window says of a place, from what `judge` says of the part that is lent to it

there : (w : List ℕ) (at : ℕ) → take (length w - at) (drop at w) ≡ drop at w
there w at = rw (← length-drop at w, take-length)

pub part_length : (w : List ℕ) (at : ℕ) → length (take (length w - at) (drop at w)) ≡ length w - at
part_length w at = rw (there w at) (length-drop at w)

-- A record there, its bounds, and that the window has it whole.
pub record RecordThere (w : List ℕ) (at : ℕ) (k : Kind) (n m : ℕ) : Type 0 where
  pub found : FoundRecord (drop at w) k n m
  pub least : 120 ≤ n
  pub most : n ≤ buffer_size
  pub within : at + n ≤ length w

module _ (place : ℕ) (w : List ℕ) (at : ℕ) (last : Bool) where
  pub record-there : (k : Kind) (n m : ℕ) → Record k n m ≡ found_in place (take (length w - at) (drop at w)) last
      → RecordThere w at k n m
  record-there k n m e =
      let f = found-record place (drop at w) last k n m (e ∙ ap (λ (x : List ℕ). found_in place x last) (there w at)) in
      let r = whole-record (drop at w) f.is_whole in
      let l = length-drop at w in
      record { found = f; least = omega (arith, f.size); most = omega (arith, f.size); within = omega (arith, f.size) }

  pub stop-there : (n m : ℕ) → Stop n m ≡ found_in place (take (length w - at) (drop at w)) last → FoundStop place (drop at w) last n m
  stop-there n m e = found-stop place (drop at w) last n m (e ∙ ap (λ (x : List ℕ). found_in place x last) (there w at))

  pub more-there : More ≡ found_in place (take (length w - at) (drop at w)) last → (last ≡ false) × (cut_short (drop at w) ≡ true)
  more-there e = found-more place (drop at w) last (e ∙ ap (λ (x : List ℕ). found_in place x last) (there w at))

-- ---- the loop

pub record Round (w : List ℕ) (place : ℕ) (last : Bool) (out₀ : List ℕ) (start : ℕ) (out : List ℕ) (at end : ℕ) : Type 0 where
  pub t : List ℕ
  pub under : Underway w place last at t
  pub puts : Puts out₀ out start end t
  pub same : length out ≡ length out₀
  -- a record has 120 bytes at least, and its line 40 at most
  pub few : 3 * end ≤ 3 * start + at
  pub fits : length w ≤ buffer_size
  pub top : place + buffer_size < 2 ^ 64
  pub room : start + most_text ≤ length out₀

module _ (w : List ℕ) (place : ℕ) (last : Bool) (out₀ : List ℕ) (start : ℕ) where
  pub round-begins : length w ≤ buffer_size → place + buffer_size < 2 ^ 64 → start + most_text ≤ length out₀ → Round w place last out₀ start out₀ 0 start
  round-begins f p r = record {
    t = [];
    under = begins w place last;
    puts = nothing out₀ start;
    same = refl;
    few = omega arith;
    fits = f;
    top = p;
    room = r;
  }

  module _ (out : List ℕ) (at end : ℕ) (r : Round w place last out₀ start out at end) where
    -- room for a line, and for the last one
    pub line-room : (k : Kind) (n m : ℕ) → RecordThere w at k n m → end + line_room ≤ length out
    line-room k n m f = omega (arith, r.few, r.fits, r.room, r.same)

    pub last-room : end + most_last ≤ length out
    last-room = omega (arith, r.few, r.fits, r.room, r.same, r.under.within)

    pub round-goes : (k : Kind) (n m : ℕ) (new : List ℕ) (q : ℕ) → RecordThere w at k n m
        → Puts out new end q (line (place + at) n (kind_number k) m) → q ≤ end + 40 → length new ≡ length out
        → Round w place last out₀ start new (at + n) q
    round-goes k n m new q f p short same =
        let l = line-room k n m f in
        record {
          t = r.t ++ line (place + at) n (kind_number k) m;
          under = goes w place last at r.t r.under k n m f.found;
          puts = then r.puts p (omega (arith, r.same));
          same = same ∙ r.same;
          few = omega (arith, r.few);
          fits = r.fits;
          top = r.top;
          room = r.room;
        }

    pub round-waits : More ≡ found_in (place + at) (take (length w - at) (drop at w)) last
        → Drains w place last out₀ out start (record { used = at; end = end; done = false })
    round-waits e = record {
      t = r.t;
      lines = record { within = r.under.within; says = r.under.says; wants = λ _. more-there (place + at) w at last e };
      puts = r.puts;
      within = omega (arith, last-room);
    }

    pub round-stops : (n m : ℕ) (new : List ℕ) (q : ℕ) → FoundStop (place + at) (drop at w) last n m
        → Puts out new end q (last_line (place + at) (n ∷ m ∷ [])) → q ≤ end + most_last → length new ≡ length out
        → Drains w place last out₀ new start (record { used = at; end = q; done = true })
    round-stops n m new q f p short same = record {
      t = r.t ++ last_line (place + at) (n ∷ m ∷ []);
      lines = record {
        within = r.under.within;
        says = stops w place last at r.t r.under n m f;
        wants = λ (z : ◌≡◌ {A = Bool} true false). absurd (false≢true cc);
      };
      puts = then r.puts p (omega (arith, r.same, last-room));
      within = omega (arith, last-room);
    }
