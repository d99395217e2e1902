-- What holds of the table each time the loop of `list_entries` comes round. Assumes nothing.
use Prim.Native.Nat.{ℕ, ◌+◌, ◌<◌}
use native.Mathlib.Omega.{arith}
use mathlib.Core.List.{List, [], ◌∷◌, ◌++◌}
use mathlib.Core.Path.{◌≡◌, refl}
use lib.ListN.{length, set, length-append}
use Rattle.sfdu_stream.specs.declared.Entry.{Entry}
use Rattle.sfdu_lists.specs.declared.Turn.{Turn}
use Rattle.sfdu_stream.specs.Walk.{words_of}
use Rattle.sfdu_stream.specs.Listing.{fills, list_entries}
use Rattle.sfdu_stream.specs.declared.Walked.{Walked}
use Rattle.sfdu_lists.specs.inner.Turn.{Lists, Stops}
use Rattle.sfdu_lists.proofs.Filled.{fills-more, fills-length}
use Rattle.sfdu_lists.proofs.Underway as Underway
use Rattle.sfdu_lists.proofs.Underway.{Underway}

-- Entries es are listed, i of them, and the table has them at its start.
pub record Round (s : List ℕ) (old : List Entry) (size at i : ℕ) (new : List Entry) : Type 0 where
  pub es : List Entry
  pub free : ℕ
  pub count : length es ≡ i
  pub whole_table : size ≡ length old
  pub under : Underway s size free at es
  pub rows : new ≡ fills es old

pub begins : (s : List ℕ) (old : List Entry) (size : ℕ) → size ≡ length old → Round s old size 0 0 old
begins s old size e = record { es = []; free = size; count = refl; whole_table = e; under = Underway.begins s size; rows = refl }

-- The table keeps its length.
pub same : {s : List ℕ} {old : List Entry} {size at i : ℕ} {new : List Entry} → Round s old size at i new → length new ≡ length old
same {s} {old} u = rw u.rows (fills-length u.es old (omega (arith, u.under.room, u.whole_table)))

-- A turn that lists a record: there is room for it, and once its entry is stored the next round holds.
pub record Stored (s : List ℕ) (old : List Entry) (size i : ℕ) (new : List Entry) (t : Turn) : Type 0 where
  pub less : i < size
  pub within : i < length new
  pub then : Round s old size t.next (i + 1) (set new i t.entry)

module _ (s : List ℕ) (old : List Entry) (size at i : ℕ) (new : List Entry) (u : Round s old size at i new) where
  pub stores : (t : Turn) → Lists s at i size t → Stored s old size i new t
  stores t turn =
      let further = Underway.goes s size at u.es t (rw u.count turn) u.free u.under in
      let k = same u in
      record {
        less = omega (arith, further.within, u.count);
        within = omega (arith, further.within, u.count, u.whole_table, k);
        then = record {
          es = u.es ++ (t.entry ∷ []);
          free = further.left;
          count = simp length-append (omega (arith, u.count));
          whole_table = u.whole_table;
          under = further.then;
          rows = rw (u.rows, ← u.count) (fills-more u.es old t.entry (omega (arith, further.within, u.whole_table)));
        };
      }

  pub finished : (w : Walked) → Stops s at i size w → ◌≡◌ {A = List ℕ × List Entry} (words_of w, new) (list_entries s old)
  finished w end =
      let stops : Stops s at (length u.es) size w = rw u.count end in
      rw u.rows (Underway.filled_is s old at u.es w (rw (← u.whole_table) stops) u.free (rw (← u.whole_table) u.under))
