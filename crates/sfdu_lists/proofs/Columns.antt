-- What holds of the four number lists in each turn of the loop of `list_numbers`. Assumes nothing.
use Prim.Native.Nat.{ℕ, ◌+◌, ◌≤◌, ◌<◌}
use native.Mathlib.Nat.{min-le_left, min-le_right, le_trans}
use native.Mathlib.Omega.{arith}
use mathlib.Core.List.{List, [], ◌∷◌, ◌++◌, map, map-append}
use mathlib.Core.Path.{◌≡◌, refl, sym, ap, ◌∙◌}
use lib.ListN.{length, set, length-append, length-map}
use Rattle.sfdu_stream.specs.declared.Entry.{Entry}
use Rattle.sfdu_lists.specs.declared.Turn.{Turn}
use Rattle.sfdu_stream.specs.Walk.{words_of}
use Rattle.sfdu_stream.specs.Listing.{Listing, listing, answer, fills, Columns, shortest, fills_columns, list_numbers}
use Rattle.sfdu_stream.specs.declared.Walked.{Walked}
use Rattle.sfdu_lists.specs.inner.Turn.{Lists, Stops}
use Rattle.sfdu_lists.proofs.Filled.{fills-more, fills-length}
use Rattle.sfdu_lists.proofs.Underway as Underway
use Rattle.sfdu_lists.proofs.Underway.{Underway}

-- What holds of each of the four lists, each by its name.
pub record Each (P : List ℕ → List ℕ → Type 0) (a b : Columns) : Type 0 where
  pub places : P a.places b.places
  pub lengths : P a.lengths b.lengths
  pub kinds : P a.kinds b.kinds
  pub numbers : P a.numbers b.numbers

abbrev pub Within : ℕ → Columns → Type 0
Within i c = Each (λ x _. i < length x) c c

-- Entries es are listed, i of them, and the lists have them at their starts.
pub record Round (s : List ℕ) (old : Columns) (size at i : ℕ) (new : Columns) : Type 0 where
  pub es : List Entry
  pub free : ℕ
  pub count : length es ≡ i
  pub least : size ≡ shortest old
  pub under : Underway s size free at es
  pub lists : new ≡ fills_columns es old

pub begins : (s : List ℕ) (old : Columns) (size : ℕ) → size ≡ shortest old → Round s old size 0 0 old
begins s old size e = record { es = []; free = size; count = refl; least = e; under = Underway.begins s size; lists = refl }

-- One list of the four: a field of the entries.
module _ (field : Entry → ℕ) (es : List Entry) (old : List ℕ) where
  column-more : (e : Entry) → length es < length old → set (fills (map field es) old) (length es) (field e) ≡ fills (map field (es ++ (e ∷ []))) old
  column-more e h = rw (map-append, ← length-map es field) (fills-more (map field es) old (field e) (simp length-map h))

  column-length : length es ≤ length old → length (fills (map field es) old) ≡ length old
  column-length h = fills-length (map field es) old (simp length-map h)

-- The lists with the numbers of e stored at i.
abbrev pub stored : Columns → ℕ → Entry → Columns
stored c i e = record {
  places = set c.places i e.place;
  lengths = set c.lengths i e.length;
  kinds = set c.kinds i e.kind;
  numbers = set c.numbers i e.number;
}

-- The shortest list is no longer than any.
no_longer : (c : Columns) (i : ℕ) → i ≤ shortest c → Each (λ x _. i ≤ length x) c c
no_longer c i h = record {
  places = le_trans h (le_trans (min-le_left _ _) (min-le_left _ _));
  lengths = le_trans h (le_trans (min-le_left _ _) (min-le_right _ _));
  kinds = le_trans h (le_trans (min-le_right _ _) (min-le_left _ _));
  numbers = le_trans h (le_trans (min-le_right _ _) (min-le_right _ _));
}

keeps-length : (es : List Entry) (old : Columns) → length es ≤ shortest old → Each (λ x y. length x ≡ length y) (fills_columns es old) old
keeps-length es old h =
    let n = no_longer old (length es) h in
    record {
      places = column-length (λ (x : Entry). x.place) es old.places n.places;
      lengths = column-length (λ (x : Entry). x.length) es old.lengths n.lengths;
      kinds = column-length (λ (x : Entry). x.kind) es old.kinds n.kinds;
      numbers = column-length (λ (x : Entry). x.number) es old.numbers n.numbers;
    }

stored-fills : (es : List Entry) (old : Columns) (e : Entry) → length es < shortest old
    → stored (fills_columns es old) (length es) e ≡ fills_columns (es ++ (e ∷ [])) old
stored-fills es old e h =
    let n = no_longer old (length es + 1) (omega arith) in
    λ j. record {
      places = column-more (λ (x : Entry). x.place) es old.places e (omega (arith, n.places)) j;
      lengths = column-more (λ (x : Entry). x.length) es old.lengths e (omega (arith, n.lengths)) j;
      kinds = column-more (λ (x : Entry). x.kind) es old.kinds e (omega (arith, n.kinds)) j;
      numbers = column-more (λ (x : Entry). x.number) es old.numbers e (omega (arith, n.numbers)) j;
    }

-- Each list keeps its length.
pub same : {s : List ℕ} {old : Columns} {size at i : ℕ} {new : Columns} → Round s old size at i new → Each (λ x y. length x ≡ length y) new old
same {s} {old} u = rw u.lists (keeps-length u.es old (omega (arith, u.under.room, u.least)))

-- A turn that lists a record: there is room for it in each list, and once its numbers are stored the next round holds.
pub record Stored (s : List ℕ) (old : Columns) (size i : ℕ) (new : Columns) (t : Turn) : Type 0 where
  pub less : i < size
  pub fits : Within i old
  pub within : Within i new
  pub then : Round s old size t.next (i + 1) (stored new i t.entry)

module _ (s : List ℕ) (old : Columns) (size at i : ℕ) (new : Columns) (u : Round s old size at i new) where
  pub stores : (t : Turn) → Lists s at i size t → Stored s old size i new t
  stores t turn =
      let further = Underway.goes s size at u.es t (rw u.count turn) u.free u.under in
      let h : length u.es < shortest old = omega (arith, further.within, u.least) in
      let n = no_longer old (i + 1) (omega (arith, u.count)) in
      let k = same u in
      record {
        less = omega (arith, further.within, u.count);
        fits = record {
          places = omega (arith, n.places);
          lengths = omega (arith, n.lengths);
          kinds = omega (arith, n.kinds);
          numbers = omega (arith, n.numbers);
        };
        within = record {
          places = omega (arith, n.places, k.places);
          lengths = omega (arith, n.lengths, k.lengths);
          kinds = omega (arith, n.kinds, k.kinds);
          numbers = omega (arith, n.numbers, k.numbers);
        };
        then = record {
          es = u.es ++ (t.entry ∷ []);
          free = further.left;
          count = simp length-append (omega (arith, u.count));
          least = u.least;
          under = further.then;
          lists = rw (u.lists, ← u.count) (stored-fills u.es old t.entry h);
        };
      }

  pub finished : (w : Walked) → Stops s at i size w → ◌≡◌ {A = List ℕ × Columns} (words_of w, new) (list_numbers s old)
  unfolding list_numbers
  finished w end =
      let done = Underway.finished s size at u.es w (rw u.count end) u.free u.under in
      let e : listing size s 0 ≡ listing (shortest old) s 0 = ap (λ (n : ℕ). listing n s 0) u.least in
      let answers : words_of w ≡ answer (listing (shortest old) s 0) = done.answers ∙ ap answer e in
      let entries : u.es ≡ (listing (shortest old) s 0).entries = sym done.entries ∙ ap (λ (x : Listing). x.entries) e in
      let columns : new ≡ fills_columns (listing (shortest old) s 0).entries old = u.lists ∙ ap (λ (es : List Entry). fills_columns es old) entries in
      λ j. (answers j, columns j)
