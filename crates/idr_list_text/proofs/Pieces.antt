-- A piece of the tape listed. Assumes nothing.
use Prim.Native.Nat.{ℕ, ◌+◌, ◌≤◌, ◌<◌}
use native.Mathlib.Nat.{zero-add}
use native.Mathlib.Omega.{arith}
use mathlib.Core.Bool.{Bool, true, false, not, ◌&&◌}
use mathlib.Core.List.{List, [], ◌++◌, append-nil}
use mathlib.Core.Path.{◌≡◌, refl, sym, ap, ◌∙◌}
use borrow.Author.Tests.{ltb-false, lt-ltb, eqb-false, not-false}
use lib.Dec.{eqb, ltb, lit<}
use lib.ListN.{length, take, take-append-drop}
use lib.Seq.{take_at, drop_at, take_all, length-take-le}
use Rattle.octets.specs.Octets.{part, put}
use Rattle.octets.proofs.Laws.{put-none}
use Rattle.text.proofs.Laid.{nothing}
use Rattle.streaming.specs.declared.State.{State}
use Rattle.streaming.specs.Listing.{unless, GoesOn, Lists}
use Rattle.idr.specs.Words.{record_size}
use Rattle.idr.specs.Read.{accepts}
use Rattle.idr_list_text.specs.declared.Listed.{Listed}
use Rattle.idr_list_text.specs.Text.{most_line}
use Rattle.idr_list_text.specs.Listing.{line_of, lines_from}
use Rattle.idr_list_text.specs.Run.{of_tapes}
use Rattle.idr_list_text.specs.inner.Lists.{ListsOne, Ready}
use Rattle.idr_list_text.proofs.Streams.{whole, lines_next}

-- What is held is listed: a record, however the tape goes on, or less of one at its end.
line-says : (place : ℕ) (held more : List ℕ) (ended : Bool) → length held ≤ record_size → (ended ≡ false → length held ≡ record_size)
    → GoesOn ended more
    → lines_from place (held ++ more) ≡ line_of place held ++ unless (not (accepts held)) (lines_from (place + length held) more)
line-says place held more ended h full on = by (accepts held) ended refl refl
  where
    by : (taken last : Bool) → accepts held ≡ taken → ended ≡ last
        → lines_from place (held ++ more) ≡ line_of place held ++ unless (not taken) (lines_from (place + length held) more)
    by true last q e =
        let l : length held ≡ record_size = whole held q in
        rw (lines_next place (held ++ more), take_at held more record_size l, drop_at held more record_size l, q, l)
    by false true q e =
        let none : held ++ more ≡ held = ap (λ (m : List ℕ). held ++ m) (on e) ∙ append-nil held in
        rw (none, lines_next place held, take_all record_size held h, q)
    by false false q e = rw (lines_next place (held ++ more), take_at held more record_size (full e), q)

positive : (n : ℕ) → (n ≡ 0 → ⊥) → 0 < n
positive n h = omega arith

-- bytes put where they stand
put_same : (w : List ℕ) (n : ℕ) → n ≤ length w → w ≡ put w 0 (part w 0 n)
unfolding put part
put_same w n h = sym (rw (length-take-le n w h, zero-add) (take-append-drop n w))

module _ (w out : List ℕ) (s : State) (got : ℕ) (ready : Ready w out s got) where
  -- the record is not whole, and the tape may go on
  pub waits : eqb got 0 ≡ false → s.have + got < record_size
      → Lists of_tapes w out s got w out (record { place = s.place; have = s.have + got; text = s.text; done = false })
  waits some h = record {
    t = [];
    puts = nothing out s.text;
    says = λ more on. refl;
    rest = put_same w (s.have + got) ready.held ∙ ap (λ (n : ℕ). put w 0 (part w n (s.have + got))) (omega arith);
    count = omega arith;
    within = omega (arith, ready.text);
    wants = λ _. lt-ltb (length (take (s.have + got) w)) record_size (omega (arith, length-take-le (s.have + got) w ready.held));
    room = λ _. (positive got (eqb-false got 0 some), h);
  }

  -- what is not waited for is whole, or the tape has ended
  pub all_there : (not (eqb got 0) && ltb (s.have + got) record_size) ≡ false → eqb got 0 ≡ false → s.have + got ≡ record_size
  all_there over some =
      let short : ltb (s.have + got) record_size ≡ false = rw some at over in
      omega (arith, ltb-false (s.have + got) record_size short, ready.held, ready.window)

  -- what is held is listed
  pub listed : (out' : List ℕ) (l : Listed) → (eqb got 0 ≡ false → s.have + got ≡ record_size) → length out' ≡ length out
      → ListsOne (take (s.have + got) w) s.place out out' s.text l → l.end ≤ s.text + most_line
      → Lists of_tapes w out s got w out' (record { place = s.place + (s.have + got); have = 0; text = l.end; done = l.done })
  listed out' l full same one few =
      let h = s.have + got in
      let long : length (take h w) ≡ h = length-take-le h w ready.held in
      record {
        t = line_of s.place (take h w);
        puts = one.puts;
        says = λ more on.
            let says = line-says s.place (take h w) more (eqb got 0) (omega (arith, long, ready.held, ready.window)) (λ some. long ∙ full some) on in
            rw one.goes (rw long at says);
        rest = unfold part in sym (put-none w 0);
        count = omega arith;
        within = omega (arith, ready.text);
        wants = λ _. refl;
        room = λ on.
            let taken = not-false (accepts (take h w)) (sym one.goes ∙ on) in
            let all = whole (take h w) taken in
            (omega (arith, long, ready.room), lit< tt);
      }
