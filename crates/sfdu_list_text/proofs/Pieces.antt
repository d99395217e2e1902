-- A piece of the stream listed: from what `drain` and the move of the rest ensure. Assumes nothing.
use Prim.Native.Nat.{ℕ, ◌+◌, ◌-◌, ◌≤◌, ◌<◌}
use native.Mathlib.Omega.{arith}
use mathlib.Core.List.{List}
use mathlib.Core.Path.{◌≡◌, ap, ◌∙◌}
use borrow.Author.Tests.{eqb-false}
use lib.Dec.{eqb}
use lib.ListN.{length, take, drop, length-drop}
use lib.Seq.{take-add, take_at, drop_at, length-take-le}
use Rattle.octets.specs.Octets.{part, put}
use Rattle.octets.proofs.Laws.{length_part}
use Rattle.octets.proofs.Puts.{put-start}
use Rattle.sfdu_list_text.specs.declared.Drained.{Drained}
use Rattle.streaming.specs.declared.State.{State}
use Rattle.streaming.specs.Listing.{Lists}
use Rattle.sfdu_list_text.specs.Window.{of_streams}
use Rattle.sfdu_list_text.specs.inner.Window.{Drains, Ready}
use Rattle.sfdu_list_text.proofs.Judging.{cut-room}

-- the rest of the first bytes
rest : (w : List ℕ) (used left held : ℕ) → used + left ≡ held → held ≤ length w → take left (drop used w) ≡ drop used (take held w)
rest w used left held e h = rw (← e, take-add used left w, drop_at (take used w) (take left (drop used w)) used (length-take-le used w (omega arith)))

-- moved to the start
pub moved : (w : List ℕ) (used left held : ℕ) → used + left ≡ held → held ≤ length w → take left (put w 0 (part w used left)) ≡ drop used (take held w)
unfolding part
moved w used left held e h =
    let l : length (take left (drop used w)) ≡ left = length_part w used left (omega arith) in
    rw (put-start w (take left (drop used w)), take_at (take left (drop used w)) (drop (length (take left (drop used w))) w) left l) (rest w used left held e h)

module _ (w out new : List ℕ) (s : State) (got : ℕ) (d : Drained) (ready : Ready w out s got)
    (drained : Drains (take (s.have + got) w) s.place (eqb got 0) out new s.text d) where
  held-length : length (take (s.have + got) w) ≡ s.have + got
  held-length = length-take-le (s.have + got) w ready.held

  pub used-held : d.used ≤ s.have + got
  used-held = omega (arith, drained.lines.within, held-length)

  pub listed : (w' : List ℕ) → w' ≡ put w 0 (part w d.used (s.have + got - d.used))
      → Lists of_streams w out s got w' new (record { place = s.place + d.used; have = s.have + got - d.used; text = d.end; done = d.done })
  listed w' e =
      let left = s.have + got - d.used in
      let sum : d.used + left ≡ s.have + got = omega (arith, used-held) in
      let back : d.used ≡ s.have + got - left = omega (arith, used-held) in
      let m : take left w' ≡ drop d.used (take (s.have + got) w) =
      ap (take left) e ∙ moved w d.used left (s.have + got) sum ready.held in
      record {
        t = drained.t;
        puts = drained.puts;
        says = λ more on. drained.lines.says more on ∙ rw m;
        rest = e ∙ ap (λ (n : ℕ). put w 0 (part w n left)) back;
        count = omega (arith, used-held);
        within = drained.within;
        wants = λ f. rw m (drained.lines.wants f).1;
        room = λ f.
            let wants = drained.lines.wants f in
            let short = cut-room _ wants.1 in
            let l : length (drop d.used (take (s.have + got) w)) ≡ left = length-drop d.used (take (s.have + got) w)
            ∙ ap (λ (n : ℕ). n - d.used) held-length in
            let some = eqb-false got 0 wants.0 in
            (by-positive got some, omega (arith, l, short));
      }
    where
      by-positive : (n : ℕ) → (n ≡ 0 → ⊥) → 0 < n
      by-positive n h = omega arith
