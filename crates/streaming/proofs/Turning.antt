-- The turns of a listing program, and its loop, for any listing. Assumes nothing.
use Prim.Native.Nat.{ℕ, ◌+◌, ◌*◌, ◌≤◌, ◌<◌, ◌^◌}
use native.Mathlib.Nat.{mul-suc}
use native.Mathlib.Numerals.{add-one}
use native.Mathlib.Omega.{arith}
use mathlib.Core.Bool.{true, false, true≢false}
use mathlib.Core.List.{List, [], ◌++◌, append_assoc, append-nil}
use mathlib.Core.Logic.{inl, inr}
use mathlib.Core.Path.{◌≡◌, refl, sym, ap, ◌∙◌, subst}
use lib.Dec.{eqb}
use lib.ListN.{length, take, drop, length-append, length-drop}
use lib.Seq.{take-add, length-take-le}
use Rattle.text.proofs.Laid.{grown}
use Rattle.streaming.specs.declared.State.{State}
use Rattle.std.specs.Prelude.{Result, Ok, Err}
use Rattle.streaming.specs.declared.system.Failure.{Failure}
use Rattle.streaming.specs.State.{emptied}
use Rattle.streaming.specs.Failure.{says_failed}
use Rattle.streaming.specs.Listing.{Listing, Lists}
use Rattle.streaming.specs.Run.{Run, begins, lists, writes, begun}
use Rattle.streaming.specs.Turn.{text_size, most_turns, Stands, Onward, Turns, Ends, EndsWhole}
use Rattle.streaming.specs.inner.Reading.{Behind}
use Rattle.streaming.specs.inner.Turn.{Sized, Going, Round, Writes, enough}

module _ {l : Listing} where
  -- ---- from one state to another

  -- nothing changed but what stands behind the bytes that are held
  onward-none : (w w₁ out : List ℕ) (s : State) → take s.have w₁ ≡ take s.have w → Onward l w out s w₁ out s
  onward-none w w₁ out s e = record {
    piece = [];
    wrote = [];
    laid = [];
    stands = λ read ended written run. (ended, rw (append-nil read, append-nil written, e) run);
    grows = sym (append-nil (take s.text out));
  }

  -- a piece more is listed
  module _ (w w₁ out w' out' : List ℕ) (s r : State) (want got : ℕ) (on : s.done ≡ false) (behind : Behind w s.have want w₁ got)
      (room : want ≤ length w₁) (listed : Lists l w₁ out s got w' out' r) where
    piece : List ℕ
    piece = take got (drop s.have w₁)

    long : length piece ≡ got
    unfolding piece
    long =
        let rest : got ≤ length (drop s.have w₁) = rw length-drop (omega (arith, behind.within)) in
        length-take-le got (drop s.have w₁) rest

    onward-lists : Onward l w out s w' out' r
    unfolding piece
    onward-lists =
        let window : take (s.have + length piece) w₁ ≡ take s.have w ++ piece =
        ap (λ (n : ℕ). take (s.have + n) w₁) long ∙ take-add s.have got w₁ ∙ ap (λ (h : List ℕ). h ++ piece) behind.held in
        record {
          piece = piece;
          wrote = [];
          laid = listed.t;
          stands = λ read ended written run. (
            eqb (length piece) 0,
            rw (append-nil written) (lists run on piece w₁ out w' out' r window refl (subst (λ (n : ℕ). Lists l w₁ out s n w' out' r)
                (sym long) listed)),
          );
          grows = grown listed.puts;
        }

  module _ {w out w' out' : List ℕ} {s r : State} where
    -- the text that is laid out is written
    onward-writes : Onward l w out s w' out' r → Onward l w out s w' out' (emptied r)
    onward-writes o = record {
      piece = o.piece;
      wrote = o.wrote ++ take r.text out';
      laid = o.laid;
      stands = λ read ended written run.
          let x = o.stands read ended written run in
          (x.0, rw (← append_assoc written o.wrote) (writes x.1));
      grows = append-nil (o.wrote ++ take r.text out') ∙ o.grows;
    }

    onward_then : {w'' out'' : List ℕ} {q : State} → Onward l w out s w' out' r → Onward l w' out' r w'' out'' q → Onward l w out s w'' out'' q
    onward_then {w''} {out''} {q} a b = record {
      piece = a.piece ++ b.piece;
      wrote = a.wrote ++ b.wrote;
      laid = a.laid ++ b.laid;
      stands = λ read ended written run.
          let x = a.stands read ended written run in
          rw (← append_assoc read a.piece, ← append_assoc written a.wrote) (b.stands _ x.0 _ x.1);
      grows =
          append_assoc a.wrote b.wrote _ ∙ ap (λ (t : List ℕ). a.wrote ++ t) b.grows ∙ sym (append_assoc a.wrote _ b.laid)
          ∙ ap (λ (t : List ℕ). t ++ b.laid) a.grows ∙ append_assoc (take s.text out) a.laid b.laid;
    }

  -- ---- a turn

  module _ (w w₁ out : List ℕ) (s : State) (want got : ℕ) (going : Going l w out s) (behind : Behind w s.have want w₁ got) where
    -- The read failed: what stands behind the bytes that are held counts for nothing.
    pub turn-fails : (why : Failure) → Turns l w out s w₁ out s (Err why)
    turn-fails why = record {
      onward = onward-none w w₁ out s behind.held;
      heard = Err why;
      fails = λ v e. let same : why ≡ v = cc in (ap Err same, refl);
      text = omega (arith, going.text, going.buffer);
      next = λ f. absurd (true≢false f);
      far = omega arith;
    }

    -- What was read is listed, and the text is written where there is enough of it.
    pub turn-lists : (w' out' : List ℕ) (r t : State) (said : Result (Unit {0}) Failure) → want ≡ l.window_size → length w₁ ≡ length w
        → Lists l w₁ out s got w' out' r → enough + l.most_text ≤ text_size → Writes r t said → Turns l w out s w' out' t said
    unfolding onward-lists onward-writes
    turn-lists w' out' r t said all same listed free wrote = by wrote
      where
        room : want ≤ length w₁
        room = omega (arith, going.window)

        onward : Onward l w out s w' out' r
        onward = onward-lists w w₁ out w' out' s r want got going.on behind room listed

        some : r.done ≡ false → 0 < length onward.piece
        some e = omega (arith, (listed.room e).0, long w w₁ out w' out' s r want got going.on behind room listed)

        far : r.place ≤ s.place + l.window_size
        far = omega (arith, listed.count, behind.within)

        fails : {p : State} (why : Failure) → Ok got ≡ Err why → (said ≡ Err why) × (p ≡ s)
        fails why e = absurd (cc)

        by : Writes r t said → Turns l w out s w' out' t said
        by (inl kept) =
            subst
            (λ (q : State). Turns l w out s w' out' q said)
            (sym kept.1)
            (record {
              onward = onward;
              heard = Ok got;
              fails = fails;
              text = listed.within;
              next = λ _ e. (some e, (listed.room e).1, omega (arith, kept.0));
              far = far;
            })
        by (inr written) =
            subst
            (λ (q : State). Turns l w out s w' out' q said)
            (sym written)
            (record {
              onward = onward-writes onward;
              heard = Ok got;
              fails = fails;
              text = omega arith;
              next = λ _ e. (some e, (listed.room e).1, omega arith);
              far = far;
            })

-- ---- the loop

module _ (l : Listing) where
  -- The loop of a listing that began at a state, with turns left.
  pub record Under (w₀ out₀ : List ℕ) (s₀ : State) (w out : List ℕ) (s : State) (turns : ℕ) : Type 0 where
    pub round : Round l w out s turns
    pub onward : Onward l w₀ out₀ s₀ w out s
    pub spent : most_turns ≤ length onward.piece + turns

  pub under-begins : (w out : List ℕ) (s : State) → Round l w out s most_turns → Under w out s w out s most_turns
  unfolding onward-none
  under-begins w out s round = record { round = round; onward = onward-none w w out s refl; spent = omega arith }

  module _ (w₀ out₀ : List ℕ) (s₀ : State) (w out : List ℕ) (s : State) (turns : ℕ) (u : Under w₀ out₀ s₀ w out s turns) where
    -- no turn is left
    pub under-gives-up : (said : Result (Unit {0}) Failure) → turns ≡ 0 → Ends l w₀ out₀ s₀ w out s said
    under-gives-up said none = record {
      onward = u.onward;
      text = omega (arith, u.round.going.text, u.round.going.buffer);
      over = λ _. inr (omega (arith, u.spent));
    }

    module _ (w' out' : List ℕ) (t : State) (said : Result (Unit {0}) Failure) (turned : Turns l w out s w' out' t said) where
      -- after a turn that did not fail and did not end the listing
      pub under_goes : length w' ≡ length w → length out' ≡ length out → says_failed said ≡ false → t.done ≡ false
          → (n : ℕ) → n + 1 ≡ turns → l.window_size ≤ text_size → Under w₀ out₀ s₀ w' out' t n
      unfolding onward_then
      under_goes a b fine on n less small =
          let next = turned.next fine on in
          let size = l.window_size in
          let one_less : size * turns ≡ size * n + size = ap (λ (k : ℕ). size * k) (sym less ∙ add-one n) ∙ mul-suc size n in
          let low : t.place + size * n ≤ 2 ^ 63 = omega (arith, u.round.low, turned.far) in
          record {
            round = record {
              going = record {
                window = a ∙ u.round.going.window;
                buffer = b ∙ u.round.going.buffer;
                room = next.1;
                text = next.2;
                place = omega (arith, low, small);
                on = on;
              };
              low = low;
            };
            onward = onward_then u.onward turned.onward;
            spent = rw length-append (omega (arith, next.0, u.spent));
          }

      -- after one that did
      pub under-ends : (says_failed said ≡ false → t.done ≡ true) → Ends l w₀ out₀ s₀ w' out' t said
      under-ends e = record {
        onward = onward_then u.onward turned.onward;
        text = turned.text;
        over = λ f. inl (e f);
      }

  -- ---- from the beginning

  pub round-begins : (w out : List ℕ) (s : State) → Sized l → s ≡ begun l → length w ≡ l.window_size → length out ≡ text_size → Round l w out s most_turns
  round-begins w out s sized e wide long =
      rw e
      (record {
        going = record {
          window = wide;
          buffer = long;
          room = sized.some;
          text = sized.text;
          place = omega (arith, sized.small);
          on = refl;
        };
        low = omega (arith, sized.small);
      })

  pub whole-ends : (w out w' out' : List ℕ) (s t : State) (said : Result (Unit {0}) Failure) → s ≡ begun l → take s.text out ≡ l.heading
      → Ends l w out s w' out' t said → EndsWhole l w' out' t said
  whole-ends w out w' out' s t said e first ends =
      let start : Stands l [] false [] w out s = subst (λ (q : State). take q.text out ≡ l.heading → Stands l [] false [] w out q) (sym e)
      (λ f. subst (λ (h : List ℕ). Run l [] false [] (begun l) [] h) (sym f) begins) first in
      let x = ends.onward.stands [] false [] start in
      record {
        read = ends.onward.piece;
        ended = x.0;
        written = ends.onward.wrote;
        stands = x.1;
        text = ends.text;
        over = ends.over;
      }
