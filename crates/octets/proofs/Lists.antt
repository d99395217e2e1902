-- Tables; and chunks of equal length, one after another: reading the k-th, replacing it, adding one, and reading all of them from a list. Each law is
-- stated once for any width and index. Assumes nothing.
use Prim.Native.Nat.{ℕ, zero, suc, ◌+◌, ◌*◌, ◌<◌, suc-le-suc}
use native.Mathlib.Nat.{mul-zero, mul-suc, zero-lt-suc, not-suc-le-zero, le_of_suc-le-suc}
use native.Mathlib.Numerals.{add-one}
use native.Mathlib.Omega.{arith}
use mathlib.Core.List.{List, [], ◌∷◌, ◌++◌, append_assoc, append-nil}
use mathlib.Core.Path.{◌≡◌, refl, sym, ap, ◌∙◌}
use lib.ListN.{length, get_or, set, replicate, length-append, replicate-append-replicate}
use lib.Seq.{ext_get_or}
use Rattle.octets.specs.Octets.{part, put}
use Rattle.octets.specs.Lists.{table, laid}
use Rattle.octets.proofs.Parts.{part_join, part-seam}
use Rattle.octets.proofs.Puts.{put-seam}

-- ---- tables

module _ {A : Type 0} where
  pub length-table : (n : ℕ) (f : ℕ → A) → length (table n f) ≡ n
  unfolding table
  length-table zero f = refl
  length-table (suc n) f = ap suc (length-table n (λ i. f (suc i)))

  pub get_or-table : (n : ℕ) (f : ℕ → A) (i : ℕ) (z : A) → i < n → get_or (table n f) i z ≡ f i
  unfolding table
  get_or-table zero f i z l = absurd (not-suc-le-zero l)
  get_or-table (suc n) f zero z l = refl
  get_or-table (suc n) f (suc i) z l = get_or-table n (λ k. f (suc k)) i z (le_of_suc-le-suc l)

  -- a list is the table of its elements
  pub table_is : (n : ℕ) (f : ℕ → A) (xs : List A) (z : A) → length xs ≡ n → ((i : ℕ) → i < n → f i ≡ get_or xs i z) → table n f ≡ xs
  table_is n f xs z e h =
      let lt = length-table n f in
      ext_get_or z (table n f) xs (lt ∙ sym e) (λ i l. let q : i < n = omega arith in get_or-table n f i z q ∙ h i q)

  -- one more
  table-suc : (n : ℕ) (f : ℕ → A) → table (suc n) f ≡ table n f ++ (f n ∷ [])
  unfolding table
  table-suc zero f = refl
  table-suc (suc n) f = ap (λ (t : List A). f 0 ∷ t) (table-suc n (λ i. f (suc i)))

  pub table_more : (n : ℕ) (f : ℕ → A) → table (n + 1) f ≡ table n f ++ (f n ∷ [])
  table_more n f = rw add-one (table-suc n f)

  pub table_none : (f : ℕ → A) → table 0 f ≡ []
  unfolding table
  table_none f = refl

-- ---- chunks of width w, with p before them and q after

module _ {A : Type 0} (w : ℕ) (f : A → List ℕ) (sized : (x : A) → length (f x) ≡ w) where
  pub length-laid : (xs : List A) → length (laid f xs) ≡ w * length xs
  unfolding laid
  length-laid [] = sym (mul-zero w)
  length-laid (x ∷ xs) = rw (length-append, length-laid xs, mul-suc) (omega (arith, sized x))

  -- the first chunk, and the others behind it
  first : (p q : List ℕ) (x : A) (xs : List A) → p ++ laid f (x ∷ xs) ++ q ≡ p ++ (f x ++ (laid f xs ++ q))
  unfolding laid
  first p q x xs = simp append_assoc

  others : (p q : List ℕ) (x : A) (xs : List A) → p ++ laid f (x ∷ xs) ++ q ≡ p ++ f x ++ laid f xs ++ q
  unfolding laid
  others p q x xs = simp append_assoc

  pub part-laid : (p q : List ℕ) (xs : List A) (z : A) (k a : ℕ) → k < length xs → length p + w * k ≡ a
      → part (p ++ laid f xs ++ q) a w ≡ f (get_or xs k z)
  part-laid p q [] z k a l e = absurd (not-suc-le-zero l)
  part-laid p q (x ∷ xs) z zero a l e =
      ap (λ (t : List ℕ). part t a w) (first p q x xs) ∙ part-seam p (f x) (laid f xs ++ q) a w (omega (arith, mul-zero w)) (sized x)
  part-laid p q (x ∷ xs) z (suc k) a l e =
      ap (λ (t : List ℕ). part t a w) (others p q x xs)
      ∙ part-laid (p ++ f x) q xs z k a (le_of_suc-le-suc l) (rw length-append (omega (arith, mul-suc w k, sized x)))

  pub put-laid : (p q : List ℕ) (xs : List A) (k a : ℕ) (x : A) → k < length xs → length p + w * k ≡ a
      → put (p ++ laid f xs ++ q) a (f x) ≡ p ++ laid f (set xs k x) ++ q
  put-laid p q [] k a x l e = absurd (not-suc-le-zero l)
  put-laid p q (y ∷ xs) zero a x l e =
      ap (λ (t : List ℕ). put t a (f x)) (first p q y xs)
      ∙ put-seam p (f y) (laid f xs ++ q) (f x) a (omega (arith, mul-zero w)) (sized y ∙ sym (sized x))
      ∙ sym (first p q x xs)
  put-laid p q (y ∷ xs) (suc k) a x l e =
      ap (λ (t : List ℕ). put t a (f x)) (others p q y xs)
      ∙ put-laid (p ++ f y) q xs k a x (le_of_suc-le-suc l) (rw length-append (omega (arith, mul-suc w k, sized y)))
      ∙ sym (others p q y (set xs k x))

-- one chunk more
pub laid_more : {A : Type 0} (f : A → List ℕ) (xs : List A) (x : A) → laid f (xs ++ (x ∷ [])) ≡ laid f xs ++ f x
unfolding laid
laid_more f [] x = append-nil (f x)
laid_more f (y ∷ xs) x = rw (laid_more f xs x, append_assoc)

-- chunks that are the parts of a list from a on
pub laid_table : {A : Type 0} (s : List ℕ) (w : ℕ) (f : A → List ℕ) (n a : ℕ) (g : ℕ → A)
    → ((i : ℕ) → i < n → f (g i) ≡ part s (a + w * i) w) → laid f (table n g) ≡ part s a (w * n)
unfolding laid table part
laid_table s w f zero a g h = rw mul-zero
laid_table s w f (suc n) a g h =
    let here : a + w * 0 ≡ a = omega (arith, mul-zero w) in
    let one : f (g 0) ≡ part s a w = h 0 (zero-lt-suc n) ∙ ap (λ (k : ℕ). part s k w) here in
    let at : (i : ℕ) → a + w * suc i ≡ a + w + w * i = λ i. omega (arith, mul-suc w i) in
    let rest : laid f (table n (λ i. g (suc i))) ≡ part s (a + w) (w * n) =
    laid_table s w f n (a + w) (λ i. g (suc i)) (λ i l. h (suc i) (suc-le-suc l) ∙ ap (λ (k : ℕ). part s k w) (at i)) in
    rw (one, rest) (part_join s a w (a + w) (w * n) (w * suc n) refl (omega (arith, mul-suc w n)))

-- chunks that are laid alike, and chunks of zeros
pub laid_same : {A : Type 0} (f g : A → List ℕ) (xs : List A) (z : A) → ((i : ℕ) → f (get_or xs i z) ≡ g (get_or xs i z)) → laid f xs ≡ laid g xs
unfolding laid
laid_same f g [] z h = refl
laid_same f g (x ∷ xs) z h = rw (h 0, laid_same f g xs z (λ i. h (suc i)))

pub laid-zeros : {A : Type 0} (w : ℕ) (f : A → List ℕ) (x : A) → f x ≡ replicate w 0 → (n : ℕ) → laid f (replicate n x) ≡ replicate (w * n) 0
unfolding laid
laid-zeros w f x e zero = rw mul-zero
laid-zeros w f x e (suc n) =
    let m : w + w * n ≡ w * suc n = omega (arith, mul-suc w n) in
    rw (e, laid-zeros w f x e n, replicate-append-replicate, m)
