-- `ledger_receive::read_arrival` meets its contract. Assumes nothing.
use mathlib.Core.Path.{◌≡◌, sym, ◌∙◌}
use Rattle.sfdu.specs.Read.{kind_of}
use Rattle.ledger_receive.proofs.Arrivals.{is-kind, same-kind, header-room, key-arrives, none-arrives}
use Rattle.ledger_receive.proofs.read_arrival.Goals as goal
use Rattle.ledger_receive.proofs.read_arrival.Goals.{After-unwrap-kind}

pub unwrap-kind-requires : goal.unwrap-kind-requires
unwrap-kind-requires c = is-kind _ (kind_of c.args.slice.now) (rw c.requires.1 at c.try_from.ensures)

-- The kind is the record's.
kind : (c : After-unwrap-kind) → c.unwrap-kind.result ≡ kind_of c.args.slice.now
kind c = same-kind _ _ (rw (c.requires.1, c.unwrap-kind.ensures) at c.try_from.ensures)

pub stream_key-requires : goal.stream_key-requires
stream_key-requires c = rw (kind (goal.at.stream_key-requires c).After-unwrap-kind) (header-room c.args.slice.now c.requires.0)

pub returns-in_err-key : goal.returns-in_err-key
returns-in_err-key c =
    let is = rw (kind (goal.at.returns-in_err-key c).After-unwrap-kind) at c.stream_key.ensures in
    rw c.from_residual.ensures (none-arrives c.args.slice.now (sym is ∙ c.in_err-key.was))

pub returns : goal.returns
returns c =
    let is = rw (kind (goal.at.returns c).After-unwrap-kind) at c.stream_key.ensures in
    key-arrives c.args.slice.now _ c.args.number c.requires.2 (sym is ∙ c.in_ok-key.was)
