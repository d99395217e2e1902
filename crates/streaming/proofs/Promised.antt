-- The promise of a run. Assumes nothing.
use Prim.Native.Nat.{ℕ}
use native.Mathlib.Omega.{arith}
use mathlib.Core.Bool.{Bool, false}
use mathlib.Core.List.{List, ◌++◌, append_assoc, append-nil}
use mathlib.Core.Path.{◌≡◌, refl, sym, ap, ◌∙◌}
use borrow.Author.Tests.{ne_eqb}
use lib.ListN.{length, take}
use Rattle.text.proofs.Laid.{grown}
use Rattle.streaming.specs.declared.State.{State}
use Rattle.streaming.specs.Listing.{Listing, listing, unless, GoesOn}
use Rattle.streaming.specs.Run.{Run, begins, lists, writes, Promise}

module _ (l : Listing) where
  -- What holds wherever a run stands.
  record Kept (read : List ℕ) (ended : Bool) (written : List ℕ) (s : State) (held text : List ℕ) : Type 0 where
    pub going : s.done ≡ false → ended ≡ false
    pub says : (more : List ℕ) → GoesOn ended more
        → listing l (read ++ more) ≡ written ++ (text ++ unless s.done (l.lines_from s.place (held ++ more)))

  kept : {read : List ℕ} {ended : Bool} {written : List ℕ} {s : State} {held text : List ℕ} → Run l read ended written s held text
      → Kept read ended written s held text
  kept begins = record { going = λ e. refl; says = λ more on. refl }
  kept (lists {read} {ended} {written} {s} {held} {text} run going piece w out w' out' r behind laid listed) =
      let k = kept run in
      record {
        going = λ e. ne_eqb (length piece) 0 (λ z. omega (arith, (listed.room e).0));
        says = λ more on.
            let rest = unless r.done (l.lines_from r.place (take r.have w' ++ more)) in
            let before : l.lines_from s.place (held ++ (piece ++ more)) ≡ listed.t ++ rest =
            ap (l.lines_from s.place) (sym (append_assoc held piece more) ∙ ap (λ (x : List ℕ). x ++ more) (sym behind)) ∙ listed.says more on in
            let laid' : text ++ (listed.t ++ rest) ≡ take r.text out' ++ rest =
            sym (append_assoc text listed.t rest)
            ∙ ap (λ (x : List ℕ). x ++ rest) (ap (λ (x : List ℕ). x ++ listed.t) (sym laid) ∙ sym (grown listed.puts)) in
            ap (listing l) (append_assoc read piece more)
            ∙ k.says (piece ++ more) (λ e. cc (k.going going))
            ∙ ap (λ (x : List ℕ). written ++ (text ++ x)) (ap (λ (b : Bool). unless b (l.lines_from s.place (held ++ (piece ++ more)))) going ∙ before)
            ∙ ap (λ (x : List ℕ). written ++ x) laid';
      }
  kept (writes {read} {ended} {written} {s} {held} {text} run) =
      let k = kept run in
      record { going = k.going; says = λ more on. k.says more on ∙ sym (append_assoc written text _) }

pub promised : (l : Listing) → Promise l
promised l read ended written s held run done more on =
    (kept l run).says more on ∙ ap (λ (b : Bool). written ++ unless b (l.lines_from s.place (held ++ more))) done ∙ append-nil written
