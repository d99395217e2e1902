-- A save by a desk with a row open, accepted and stale. Assumes nothing.
use Prim.Native.Nat.{ℕ}
use mathlib.Core.Bool.{true, false}
use mathlib.Core.List.{[], ◌∷◌}
use mathlib.Core.Path.{◌≡◌}
use Rattle.refusals.specs.Judge.{judge}
use Rattle.ledger_model.specs.Book.{Book, closed, desk, put_desk, is_desk, is_open}
use Rattle.ledger_model.specs.Step.{Save, refusals, effect, after_refusal, step}
use Rattle.ledger_layout.specs.Layout.{call}
use Rattle.ledger_changes.specs.inner.Books.{is_current, stored}

module _ (d : ℕ) (b : Book) (t : is_desk d ≡ true) (o : is_open (desk b d) ≡ true) where
  pub save-current : is_current d b ≡ true → (0 ∷ [], put_desk d closed (stored d b)) ≡ call (Save d) b
  unfolding step refusals judge effect
  save-current e = rw (t, o, e)

  pub save-stale : is_current d b ≡ false → (31 ∷ [], put_desk d closed b) ≡ call (Save d) b
  unfolding step refusals judge after_refusal
  save-stale e = rw (t, o, e)
