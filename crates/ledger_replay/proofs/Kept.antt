-- The calls that a trace keeps: their answers fit an entry, and all other calls change nothing. Assumes nothing.
use Prim.Native.Nat.{ℕ, ◌^◌, ◌<◌}
use native.Mathlib.Omega.{arith}
use mathlib.Core.Bool.{Bool, true, false, cond, ◌&&◌, false≢true}
use mathlib.Core.List.{List, [], ◌∷◌}
use mathlib.Core.Path.{◌≡◌, refl, sym, ap, ◌∙◌}
use lib.Dec.{eqb, lit<}
use borrow.Author.Tests.{ltb-true, lt-ltb}
use Rattle.refusals.specs.Judge.{Rule, ◌when◌, judge, verdict}
use Rattle.keys.specs.Numbers.{modulus, is_number}
use Rattle.keys.proofs.Laws.{below-valid}
use Rattle.keys.proofs.Numbers.{modulus-fits}
use Rattle.ledger_model.specs.Positions.{Positions, in_row}
use Rattle.ledger_model.specs.Book.{Place, free, row, Book, place, is_desk, position_at, lowest_free}
use Rattle.ledger_model.specs.Step.{Call, Enrol, Ask, Open, Mark, Save, Drop, Strike}
use Rattle.ledger_model.specs.Step.{Answer, refused, Reply, reply, refusals, effect, after_refusal, reply_given, step}
use Rattle.ledger_model.specs.WellFormed.{WellFormed}
use Rattle.ledger_model.proofs.Basics.{row_in, has-row}
use Rattle.ledger_model.proofs.Numbers.{outside}
use Rattle.ledger_model.proofs.Laws.{lowest-in, changes}
use Rattle.ledger_model.proofs.Outcome.{Outcome, refusal, enrolment, asking, opening, unopened, unmarked, marking, saving, stale, dropping, striking, outcome}
use Rattle.ledger_replay.specs.Trace.{number_size, key_size}
use Rattle.ledger_replay.specs.Record.{is_byte, is_kept}
use Rattle.ledger_replay.specs.Laws.{is_refusal, row_fits, nothing_fits, answer_fits}

-- ---- the model's answers fit

Under : List (Rule ℕ) → Type 0
Under [] = Unit {0}
Under ((n when t) ∷ rules) = (n < 256) × Under rules

verdict-under : (rules : List (Rule ℕ)) → Under rules → verdict rules < 256
unfolding judge Under
verdict-under [] u = lit< tt
verdict-under ((n when true) ∷ rules) u = u.0
verdict-under ((n when false) ∷ rules) u = verdict-under rules u.1

reply_given-fits : (f : Answer → Bool) → ((n : ℕ) → f (refused n) ≡ is_refusal n) → (v : ℕ) (c : Call) (b : Book) → v < 256
    → f (effect c b).answer ≡ true → f (reply_given v c b).answer ≡ true
reply_given-fits f same v c b l h = at (eqb v 0) refl
  where
    at : (t : Bool) → eqb v 0 ≡ t → f (cond t (effect c b) (reply (refused v) (after_refusal v c b))).answer ≡ true
    at true z = h
    at false z = same v ∙ rw (z, lt-ltb v 256 l)

-- A question is never kept.
unfoldable pub asks : Call → Bool
asks (Enrol key first) = false
asks (Ask q) = true
asks (Open d r) = false
asks (Mark flag d n) = false
asks (Save d) = false
asks (Drop d) = false
asks (Strike r) = false

pub kept-asks : (c : Call) → is_kept c ≡ true → asks c ≡ false
unfolding is_kept asks
kept-asks (Enrol key first) k = refl
kept-asks (Ask q) k = cc
kept-asks (Open d r) k = refl
kept-asks (Mark flag d n) k = refl
kept-asks (Save d) k = refl
kept-asks (Drop d) k = refl
kept-asks (Strike r) k = refl

pub model-fits : (c : Call) (b : Book) → WellFormed b → asks c ≡ false → answer_fits c (step c b).answer ≡ true
unfolding answer_fits step refusals effect row_fits nothing_fits asks Under
model-fits (Enrol key first) b ok k =
    reply_given-fits row_fits (λ n. refl) (verdict (refusals (Enrol key first) b)) (Enrol key first) b
    (verdict-under (refusals (Enrol key first) b) (lit< tt, (lit< tt, (lit< tt, (lit< tt, tt)))))
    (lt-ltb (lowest_free b.places) 256 (omega (arith, lowest-in b.places, ok.places_count)))
model-fits (Ask q) b ok k = cc
model-fits (Open d r) b ok k =
    reply_given-fits nothing_fits (λ n. refl) (verdict (refusals (Open d r) b)) (Open d r) b
    (verdict-under (refusals (Open d r) b) (lit< tt, (lit< tt, (lit< tt, tt)))) refl
model-fits (Mark true d n) b ok k =
    reply_given-fits nothing_fits (λ n. refl) (verdict (refusals (Mark true d n) b)) (Mark true d n) b
    (verdict-under (refusals (Mark true d n) b) (lit< tt, (lit< tt, (lit< tt, (lit< tt, tt))))) refl
model-fits (Mark false d n) b ok k =
    reply_given-fits nothing_fits (λ n. refl) (verdict (refusals (Mark false d n) b)) (Mark false d n) b
    (verdict-under (refusals (Mark false d n) b) (lit< tt, (lit< tt, (lit< tt, (lit< tt, tt))))) refl
model-fits (Save d) b ok k =
    reply_given-fits nothing_fits (λ n. refl) (verdict (refusals (Save d) b)) (Save d) b
    (verdict-under (refusals (Save d) b) (lit< tt, (lit< tt, (lit< tt, tt)))) refl
model-fits (Drop d) b ok k =
    reply_given-fits nothing_fits (λ n. refl) (verdict (refusals (Drop d) b)) (Drop d) b (verdict-under (refusals (Drop d) b) (lit< tt, (lit< tt, tt))) refl
model-fits (Strike r) b ok k =
    reply_given-fits nothing_fits (λ n. refl) (verdict (refusals (Strike r) b)) (Strike r) b
    (verdict-under (refusals (Strike r) b) (lit< tt, (lit< tt, tt))) refl

-- ---- a call that is not kept changes nothing

desk-byte : (d : ℕ) → is_desk d ≡ true → is_byte d ≡ true
desk-byte d t = let l = ltb-true d 8 t in lt-ltb d 256 (omega arith)

row-byte : (b : Book) (r : ℕ) {key first : ℕ} {s : Positions} → WellFormed b → place b r ≡ row key first s → is_byte r ≡ true
row-byte b r ok e = let l = row_in b.places r e in lt-ltb r 256 (omega (arith, ok.places_count))

number_fits : (key n : ℕ) → is_number key n ≡ true → n < 256 ^ number_size
number_fits key n t = let l = ltb-true n (modulus key) t in omega (arith, modulus-fits key)

-- The number of an accepted tick or untick.
marked-fits : (p : Place) (n i : ℕ) → position_at p n ≡ i → i < 1024 → n < 256 ^ number_size
marked-fits free n i e l = absurd (omega arith)
marked-fits (row key first ticks) n i e l = at (is_number key n) refl
  where
    at : (t : Bool) → is_number key n ≡ t → n < 256 ^ number_size
    at true t = number_fits key n t
    at false t =
        let q = sym (outside key first n t) ∙ ap in_row e ∙ lt-ltb i 1024 l in
        absurd (false≢true q)

both : (x y : Bool) → x ≡ true → y ≡ true → x && y ≡ true
both x y e f = rw (e, f)

-- Whatever a call that is not kept came to.
not-kept : {A : Type 0} {t : Bool} → t ≡ true → t ≡ false → A
not-kept x y = absurd (false≢true (sym y ∙ x))

stays : (b : Book) → WellFormed b → {c : Call} {t : Reply} → Outcome b c t → is_kept c ≡ false → t.book ≡ b
unfolding is_kept
stays b ok (refusal number m) k = refl
stays b ok (enrolment {key = key} {first = first} a) k =
    let l = below-valid key a.is-valid in
    let n = number_fits key first a.is-number in
    not-kept (both _ _ (lt-ltb key (256 ^ key_size) (omega arith)) (lt-ltb first (256 ^ number_size) n)) k
stays b ok (asking words) k = refl
stays b ok (opening {d = d} {r = r} key first s t e x) k = not-kept (both _ _ (desk-byte d t) (row-byte b r ok e)) k
stays b ok (unopened number f) k = refl
stays b ok (unmarked r opened worked i number h p v z) k = refl
stays b ok (marking {flag = flag} {d = d} {n = n} r opened worked i h p v) k =
    let m = marked-fits (place b r) n i p (changes flag i worked v).in-row in
    not-kept (both _ _ (desk-byte d h.0) (lt-ltb n (256 ^ number_size) m)) k
stays b ok (saving {d = d} r opened worked h e) k = not-kept (desk-byte d h.0) k
stays b ok (stale {d = d} r opened worked h e) k = not-kept (desk-byte d h.0) k
stays b ok (dropping {d = d} t x) k = not-kept (desk-byte d t) k
stays b ok (striking {r = r} f o) k = let h = has-row (place b r) f in not-kept (row-byte b r ok h.is) k

pub unkept-stays : (c : Call) (b : Book) → WellFormed b → is_kept c ≡ false → (step c b).book ≡ b
unkept-stays c b ok k = stays b ok (outcome c b) k
