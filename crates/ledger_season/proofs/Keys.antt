-- Keys read one after another, and compared. Assumes nothing.
use Prim.Native.Nat.{ℕ, zero, suc, ◌+◌, ◌*◌, ◌%◌, ◌≤◌, ◌<◌, suc-le-suc}
use native.Mathlib.Nat.{mod-lt, zero-lt-suc, le_of_suc-le-suc, eq-or-lt_of_le}
use native.Mathlib.Numerals.{add-one}
use native.Mathlib.Omega.{arith}
use mathlib.Core.Bool.{Bool, true, false, not, ◌&&◌, ◌||◌, true≢false, false≢true, or_assoc}
use mathlib.Core.Logic.{⊎_elim}
use mathlib.Core.List.{List, [], ◌∷◌, ◌++◌, append_assoc}
use mathlib.Core.Option.{some}
use mathlib.Core.Path.{◌≡◌, refl, sym, ap, ◌∙◌}
use lib.Dec.{eqb, ltb, leb}
use lib.ListN.{length, get_or, take, drop, set, length-set}
use lib.Seq.{take-suc-set, get_or-take, get_or-set_same, get_or-set_other, length-take-le}
use borrow.Author.Tests.{eqb-true, eqb-false, eq-eqb, ne_eqb, ltb-true, leb-true, not-true}
use Rattle.laws.proofs.Bools.{same_bool, and_split}
use Rattle.octets.specs.Octets.{all}
use Rattle.octets.proofs.Laws.{all-each, all-at}
use Rattle.ledger_model.specs.Book.{Place, free, row, Book, fresh, has_key, place_with}
use Rattle.ledger_model.specs.WellFormed.{WellFormed, key_of}
use Rattle.ledger_model.proofs.Laws.{found}
use Rattle.ledger_sheet.specs.Sheet.{row_count, row_at, is_used, key_at}
use Rattle.ledger_season.specs.Report.{key_in_one, any_in_one, key_in_two}
use Rattle.ledger_season.specs.Season.{sheet_at, books_to}
use Rattle.ledger_season.specs.inner.Gathered.{most_keys, most_slots, keys_of, keys_of_all, is_in, distinct, is_new, are_new, Keyed}
use Rattle.ledger_season.proofs.Rows.{places, place-used, place-free, next_place, no_place}
use Rattle.ledger_season.proofs.Sheets.{next-book, no-book}

-- ---- keys read

append-nil : (xs : List ℕ) → xs ++ [] ≡ xs
append-nil [] = refl
append-nil (x ∷ xs) = ap (λ ys. x ∷ ys) (append-nil xs)

-- The keys of the first i rows stand behind `found` keys.
pub record KeyedTo (s before : List ℕ) (found : ℕ) (keys : List ℕ) (count i : ℕ) : Type 0 where
  pub few : count ≤ found + i
  pub long : length keys ≡ length before
  pub keys-left : take count keys ++ keys_of (drop i (places s)) ≡ take found before ++ keys_of (places s)

pub keyed-none : (s keys : List ℕ) (found : ℕ) → KeyedTo s keys found keys found 0
keyed-none s keys found = record { few = omega arith; long = refl; keys-left = refl }

module _ (s before : List ℕ) (found : ℕ) (keys : List ℕ) (count i : ℕ) (l : i < row_count) (h : KeyedTo s before found keys count i) where
  pub keyed-free : is_used s i ≡ false → KeyedTo s before found keys count (i + 1)
  unfolding keys_of
  keyed-free u =
      record {
        few = omega (arith, h.few);
        long = h.long;
        keys-left = rw (next_place s i l, place-free s i u) at h.keys-left;
      }

  pub keyed-used : (key : ℕ) → count < length before → key ≡ key_at s (row_at i) → is_used s i ≡ true
      → KeyedTo s before found (set keys count key) (count + 1) (i + 1)
  unfolding keys_of
  keyed-used key room k u =
      let left : take count keys ++ key_at s (row_at i) ∷ keys_of (drop (i + 1) (places s)) ≡ take found before ++ keys_of (places s) =
      rw (next_place s i l, place-used s i u) at h.keys-left in
      record {
        few = omega (arith, h.few);
        long = length-set keys count key ∙ h.long;
        keys-left = rw (add-one count, take-suc-set keys count key (omega (arith, h.long)), append_assoc, k) left;
      }

pub keyed-all : (s before : List ℕ) (found : ℕ) (keys : List ℕ) (count : ℕ) → KeyedTo s before found keys count row_count
    → Keyed before found (places s) keys count
unfolding keys_of
keyed-all s before found keys count h =
    record { few = h.few; long = h.long; keys_are = sym (append-nil _) ∙ rw (no_place s) at h.keys-left }

-- The keys of the first k of n sheets are read.
pub record AllKeyed (s : List ℕ) (n : ℕ) (keys : List ℕ) (found k : ℕ) : Type 0 where
  pub few : found ≤ row_count * k
  pub long : length keys ≡ most_keys
  pub keys-left : take found keys ++ keys_of_all (drop k (books_to s n)) ≡ keys_of_all (books_to s n)

pub all-keyed-none : (s : List ℕ) (n : ℕ) (keys : List ℕ) → length keys ≡ most_keys → AllKeyed s n keys 0 0
all-keyed-none s n keys l = record { few = omega arith; long = l; keys-left = refl }

pub all-keyed-more : (s : List ℕ) (n : ℕ) (keys : List ℕ) (found k : ℕ) → k < n → AllKeyed s n keys found k
    → (after : List ℕ) (count : ℕ) → Keyed keys found (places (sheet_at s k)) after count → AllKeyed s n after count (k + 1)
unfolding keys_of_all
all-keyed-more s n keys found k l h after count a =
    let rest = drop (k + 1) (books_to s n) in
    let left : take found keys ++ (keys_of (places (sheet_at s k)) ++ keys_of_all rest) ≡ keys_of_all (books_to s n) =
    rw (next-book s n k l) at h.keys-left in
    record {
      few = omega (arith, h.few, a.few);
      long = a.long ∙ h.long;
      keys-left = rw (a.keys_are, append_assoc) left;
    }

pub all-keyed : (s : List ℕ) (n : ℕ) (keys : List ℕ) (found : ℕ) → AllKeyed s n keys found n → take found keys ≡ keys_of_all (books_to s n)
unfolding keys_of_all
all-keyed s n keys found h = sym (append-nil (take found keys)) ∙ rw (no-book s n) at h.keys-left

-- ---- keys compared: a slot for each key

-- The slots of the first i keys, by the prime p, are taken.
pub record Covers (p : ℕ) (keys : List ℕ) (taken : List Bool) (i : ℕ) : Type 0 where
  pub long : length taken ≡ most_slots
  pub covered : (j : ℕ) → j < i → get_or taken (get_or keys j 0 % p) false ≡ true

pub covers-none : (p : ℕ) (keys : List ℕ) (taken : List Bool) → length taken ≡ most_slots → Covers p keys taken 0
covers-none p keys taken l = record { long = l; covered = λ j h. absurd (omega arith) }

below : (a b c : ℕ) → a < b → b ≤ c → a < c
below a b c l m = omega arith

pub slot-inside : (p key : ℕ) → 0 < p → p ≤ most_slots → key % p < most_slots
slot-inside p key s m = below (key % p) p most_slots (mod-lt key s) m

-- the primes that are tried where many keys share slots by the first
abbrev pub others : List ℕ
others = 7691 ∷ 7687 ∷ 7681 ∷ 7673 ∷ 7669 ∷ 7649 ∷ 7643 ∷ 7639 ∷ []

others-fit : all 8 (λ j. ltb 0 (get_or others j 0) && leb (get_or others j 0) most_slots) ≡ true
unfolding all
others-fit = refl

pub prime-fits : (table : List ℕ) → table ≡ others → (j : ℕ) → j < 8 → (0 < get_or table j 0) × (get_or table j 0 ≤ most_slots)
prime-fits table e j l =
    let fits = and_split _ _ (all-at 8 j (λ k. ltb 0 (get_or others k 0) && leb (get_or others k 0) most_slots) others-fit l) in
    rw e (ltb-true _ _ fits.0, leb-true _ _ fits.1)

module _ (p : ℕ) (some : 0 < p) (most : p ≤ most_slots) (keys : List ℕ) (taken : List Bool) (i : ℕ) (h : Covers p keys taken i) where
  pub covers_more : Covers p keys (set taken (get_or keys i 0 % p) true) (i + 1)
  covers_more =
      record {
        long = length-set taken (get_or keys i 0 % p) true ∙ h.long;
        covered = λ j l. by j l (eqb (get_or keys j 0 % p) (get_or keys i 0 % p)) refl;
      }
    where
      slot : ℕ
      slot = get_or keys i 0 % p

      inside : slot < length taken
      inside = rw h.long (slot-inside p (get_or keys i 0) some most)

      by : (j : ℕ) → j < i + 1 → (b : Bool) → eqb (get_or keys j 0 % p) slot ≡ b → get_or (set taken slot true) (get_or keys j 0 % p) false ≡ true
      by j l true e = rw (eqb-true (get_or keys j 0 % p) slot e) (get_or-set_same taken slot true false inside)
      by j l false e =
          let before = eq-or-lt_of_le (le_of_suc-le-suc (rw add-one at l)) in
          get_or-set_other taken slot (get_or keys j 0 % p) true false (eqb-false _ _ e)
          ∙ h.covered j (⊎_elim (λ q. absurd (eqb-false _ _ e (ap (λ k. get_or keys k 0 % p) q))) (λ q. q) before)

  -- a key whose slot is free is new
  pub slot-free : get_or taken (get_or keys i 0 % p) false ≡ false → is_new keys i (get_or keys i 0) ≡ true
  unfolding is_new
  slot-free f =
      all-each i _ (λ j l.
      rw (ne_eqb _ _ (λ e. true≢false (sym (h.covered j l) ∙ ap (λ k. get_or taken (k % p) false) e ∙ f))))

-- ---- keys that are all new are different

-- No two places of a list have the same number.
abbrev Different : List ℕ → Type 0
Different xs = (i j : ℕ) → i < j → j < length xs → get_or xs i 0 ≡ get_or xs j 0 → ⊥

in-at : (x : ℕ) (xs : List ℕ) → is_in x xs ≡ true → (j : ℕ) × (j < length xs) × (get_or xs j 0 ≡ x)
unfolding is_in
in-at x [] e = absurd (false≢true e)
in-at x (y ∷ ys) e = by (eqb y x) refl e (in-at x ys)
  where
    by : (b : Bool) → eqb y x ≡ b → (b || is_in x ys) ≡ true → (is_in x ys ≡ true → (j : ℕ) × (j < length ys) × (get_or ys j 0 ≡ x))
        → (j : ℕ) × (j < suc (length ys)) × (get_or (y ∷ ys) j 0 ≡ x)
    by true q h k = (0, zero-lt-suc _, eqb-true y x q)
    by false q h k = let f = k h in (suc f.0, suc-le-suc f.1, f.2)

at_in : (x : ℕ) (xs : List ℕ) (j : ℕ) → j < length xs → get_or xs j 0 ≡ x → is_in x xs ≡ true
unfolding is_in
at_in x [] j l e = absurd (omega arith)
at_in x (y ∷ ys) zero l e = rw (eq-eqb y x e)
at_in x (y ∷ ys) (suc j) l e = by (eqb y x) (at_in x ys j (le_of_suc-le-suc l) e)
  where
    by : (b : Bool) {c : Bool} → c ≡ true → (b || c) ≡ true
    by true q = refl
    by false q = q

distinct-different : (xs : List ℕ) → distinct xs ≡ true → Different xs
unfolding distinct
distinct-different [] e i j l m = absurd (omega arith)
distinct-different (x ∷ xs) e i zero l m = absurd (omega arith)
distinct-different (x ∷ xs) e zero (suc j) l m = λ q.
    true≢false (sym (at_in x xs j (le_of_suc-le-suc m) (sym q)) ∙ not-true _ (and_split (not (is_in x xs)) (distinct xs) e).0)
distinct-different (x ∷ xs) e (suc i) (suc j) l m =
    distinct-different xs (and_split (not (is_in x xs)) (distinct xs) e).1 i j (le_of_suc-le-suc l) (le_of_suc-le-suc m)

different-distinct : (xs : List ℕ) → Different xs → distinct xs ≡ true
unfolding distinct
different-distinct [] d = refl
different-distinct (x ∷ xs) d =
    rw (by (is_in x xs) refl, different-distinct xs (λ i j l m. d (suc i) (suc j) (suc-le-suc l) (suc-le-suc m)))
  where
    by : (b : Bool) → is_in x xs ≡ b → is_in x xs ≡ false
    by true e = let k = in-at x xs e in absurd (d 0 (suc k.0) (zero-lt-suc _) (suc-le-suc k.1) (sym k.2))
    by false e = e

pub new-distinct : (keys : List ℕ) (n : ℕ) → n ≤ length keys → are_new keys n ≡ distinct (take n keys)
unfolding are_new is_new
new-distinct keys n l = same_bool _ _ to from
  where
    count : length (take n keys) ≡ n
    count = length-take-le n keys l

    to : are_new keys n ≡ true → distinct (take n keys) ≡ true
    to e =
        different-distinct (take n keys) (λ i j a b q.
        let inside : j < n = omega (arith, count) in
        let new = all-at j i _ (all-at n j _ e inside) a in
        eqb-false _ _ (not-true _ new) (sym (get_or-take n keys i 0 (omega arith)) ∙ q ∙ get_or-take n keys j 0 inside))

    from : distinct (take n keys) ≡ true → are_new keys n ≡ true
    from e =
        all-each n _ (λ j b.
        all-each j _ (λ i a.
        let d = distinct-different (take n keys) e i j a (omega (arith, count)) in
        rw (ne_eqb _ _ (λ q. d (get_or-take n keys i 0 (omega arith) ∙ q ∙ sym (get_or-take n keys j 0 b))))))

-- ---- the keys of sheets that have no key twice

is_in-append : (x : ℕ) (xs ys : List ℕ) → is_in x (xs ++ ys) ≡ (is_in x xs || is_in x ys)
unfolding is_in
is_in-append x [] ys = refl
is_in-append x (y ∷ xs) ys = rw (is_in-append x xs ys) (sym (or_assoc (eqb y x) (is_in x xs) (is_in x ys)))

has-key : (k : ℕ) (ps : List Place) → has_key k ps ≡ is_in k (keys_of ps)
unfolding has_key is_in keys_of
has-key k [] = refl
has-key k (free ∷ ps) = has-key k ps
has-key k (row key first ticks ∷ ps) = ap (λ b. eqb key k || b) (has-key k ps)

in_one : (k : ℕ) (bs : List Book) → key_in_one k bs ≡ is_in k (keys_of_all bs)
unfolding key_in_one is_in keys_of_all
in_one k [] = refl
in_one k (b ∷ bs) = rw (is_in-append k (keys_of b.places) (keys_of_all bs), has-key k b.places, in_one k bs)

-- None of the first list is in the second.
apart : List ℕ → List ℕ → Bool
apart [] ys = true
apart (x ∷ xs) ys = not (is_in x ys) && apart xs ys

distinct_append : (xs ys : List ℕ) → distinct (xs ++ ys) ≡ (distinct xs && apart xs ys && distinct ys)
unfolding distinct apart
distinct_append [] ys = refl
distinct_append (x ∷ xs) ys =
    rw (is_in-append x xs ys, distinct_append xs ys) (by (is_in x xs) (is_in x ys) (distinct xs) (apart xs ys) (distinct ys))
  where
    by : (a b d p q : Bool) → (not (a || b) && (d && p && q)) ≡ (not a && d && (not b && p) && q)
    by true b d p q = refl
    by false true true p q = refl
    by false true false p q = refl
    by false false d p q = refl

any-apart : (ps : List Place) (bs : List Book) → any_in_one ps bs ≡ not (apart (keys_of ps) (keys_of_all bs))
unfolding any_in_one keys_of apart
any-apart [] bs = refl
any-apart (free ∷ ps) bs = any-apart ps bs
any-apart (row key first ticks ∷ ps) bs = rw (in_one key bs, any-apart ps bs) (by (is_in key (keys_of_all bs)) (apart (keys_of ps) (keys_of_all bs)))
  where
    by : (a p : Bool) → (a || not p) ≡ not (not a && p)
    by true p = refl
    by false p = refl

pub keys-law : (bs : List Book) → ((k : ℕ) → k < length bs → distinct (keys_of (get_or bs k fresh).places) ≡ true)
    → distinct (keys_of_all bs) ≡ not (key_in_two bs)
unfolding keys_of_all key_in_two distinct
keys-law [] h = refl
keys-law (b ∷ bs) h =
    distinct_append (keys_of b.places) (keys_of_all bs)
    ∙ rw (h 0 (zero-lt-suc _), keys-law bs (λ k l. h (suc k) (suc-le-suc l)), any-apart b.places bs)
    (by (apart (keys_of b.places) (keys_of_all bs)) (key_in_two bs))
  where
    by : (p t : Bool) → (p && not t) ≡ not (not p || t)
    by true t = refl
    by false t = refl

-- A well-formed book has no key twice.
abbrev Differ : List Place → Type 0
Differ ps = (r q key : ℕ) → key_of (get_or ps r free) ≡ some key → key_of (get_or ps q free) ≡ some key → r ≡ q

places-distinct : (ps : List Place) → Differ ps → distinct (keys_of ps) ≡ true
unfolding keys_of distinct
places-distinct [] d = refl
places-distinct (free ∷ ps) d = places-distinct ps (λ r q key a b. let e = d (suc r) (suc q) key a b in omega arith)
places-distinct (row key first ticks ∷ ps) d =
    rw (sym (has-key key ps) ∙ by (has_key key ps) refl, places-distinct ps (λ r q k a b. let e = d (suc r) (suc q) k a b in omega arith))
  where
    by : (b : Bool) → has_key key ps ≡ b → has_key key ps ≡ false
    by true e = let f = found key ps e in let z = d 0 (suc (place_with key ps)) key refl f.has-key in absurd (omega arith)
    by false e = e

pub book-distinct : (b : Book) → WellFormed b → distinct (keys_of b.places) ≡ true
book-distinct b w = places-distinct b.places w.keys_differ
