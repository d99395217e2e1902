-- What a step computes to, from what is known of its desk and place. Proofs about steps use these equations.
-- Assumes nothing.
use Rattle.std.proofs.Common.{◌≡◌, ℕ, Bool, true, false, cond, not, eqb, set, refl}
use mathlib.Core.Bool.{beq}
use Rattle.refusals.specs.Judge.{judge}
use Rattle.ledger_model.specs.Positions.{Positions, has, same, in_row}
use Rattle.ledger_model.specs.Book.{row, closed, working, Book, place, desk, put_place, put_desk, ticks_of, with_ticks, is_desk, position_at}
use Rattle.ledger_model.specs.Step.{Open, Mark, Save, done, refused, Reply, reply, already_so, refusals, effect, after_refusal, step}

-- What a mark at position i of the worked set is refused for, by a desk with a row open; 0 where it is accepted.
unfoldable pub mark_verdict : (flag : Bool) (i : ℕ) (worked : Positions) → ℕ
mark_verdict flag i worked = cond (not (in_row i)) 28 (cond (beq (has worked i) flag) (already_so flag) 0)

-- A save's last row, for the sets' being the same or not.
stale-row : (u : Bool) (stored : Reply) (cleared b : Book)
    → cond (eqb (cond (not u) 31 0) 0) stored (reply (refused (cond (not u) 31 0)) (cond (eqb (cond (not u) 31 0) 31) cleared b))
    ≡ cond u stored (reply (refused 31) cleared)
stale-row true stored cleared b = refl
stale-row false stored cleared b = refl

module _ (b : Book) (d : ℕ) (t : is_desk d ≡ true) where
  pub open_step : (r key first : ℕ) (s : Positions) → place b r ≡ row key first s → desk b d ≡ closed
      → step (Open d r) b ≡ reply done (put_desk d (working r s s) b)
  unfolding step refusals judge effect
  open_step r key first s e x = rw (t, e, x)

  pub mark-step : (flag : Bool) (n r : ℕ) (opened worked : Positions) → desk b d ≡ working r opened worked
      → (i : ℕ) → position_at (place b r) n ≡ i
      → step (Mark flag d n) b
      ≡ cond (eqb (mark_verdict flag i worked) 0)
      (reply done (put_desk d (working r opened (set worked i flag)) b))
      (reply (refused (mark_verdict flag i worked)) b)
  unfolding step refusals judge effect after_refusal mark_verdict
  mark-step flag n r opened worked x i p = rw (t, x, p)

  pub save-step : (r : ℕ) (opened worked : Positions) → desk b d ≡ working r opened worked
      → step (Save d) b
      ≡ cond (same (ticks_of (place b r)) opened)
      (reply done (put_desk d closed (put_place r (with_ticks worked (place b r)) b)))
      (reply (refused 31) (put_desk d closed b))
  unfolding step refusals judge effect after_refusal
  save-step r opened worked x = rw (t, x) (stale-row (same (ticks_of (place b r)) opened) _ _ b)

  -- A desk with no row open.
  pub mark-closed : (flag : Bool) (n : ℕ) → desk b d ≡ closed → step (Mark flag d n) b ≡ reply (refused 27) b
  unfolding step refusals judge after_refusal
  mark-closed flag n x = rw (t, x)

  pub save-closed : desk b d ≡ closed → step (Save d) b ≡ reply (refused 27) b
  unfolding step refusals judge after_refusal
  save-closed x = rw (t, x)

-- A desk that is not there.
pub mark-no-desk : (b : Book) (flag : Bool) (d n : ℕ) → is_desk d ≡ false → step (Mark flag d n) b ≡ reply (refused 21) b
unfolding step refusals judge after_refusal
mark-no-desk b flag d n t = rw t

pub save-no-desk : (b : Book) (d : ℕ) → is_desk d ≡ false → step (Save d) b ≡ reply (refused 21) b
unfolding step refusals judge after_refusal
save-no-desk b d t = rw t
