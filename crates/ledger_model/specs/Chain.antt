-- A list of calls, made one after another on a store S, with their answers. `Meets c s a t` is the contract of one call: c on the store s answers a
-- and leaves the store t. Assumes nothing.
use Rattle.std.specs.Prelude.{List, [], ◌∷◌}
use Rattle.ledger_model.specs.Step.{Call, Answer, Entry, ◌⇒◌}

pub data Chain {S : Type 0} (Meets : Call → S → Answer → S → Type 0) : S → List Entry → S → Type 0 where
  stop : {s : S} → Chain Meets s [] s
  next : {s t u : S} {c : Call} {a : Answer} {es : List Entry} → Meets c s a t → Chain Meets t es u → Chain Meets s ((c ⇒ a) ∷ es) u
