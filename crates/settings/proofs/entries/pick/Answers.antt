-- `entries::pick` meets its contract. First comes what each test of the code means, as a fact. Assumes nothing.
use Prim.Native.Nat.{◌<◌, ◌≤◌}
use native.Mathlib.Omega.{arith}
use mathlib.Core.Logic.{◌≢◌}
use mathlib.Core.Path.{◌≡◌}
use borrow.Author.Tests.{eq-eqb, ne_eqb, lt-leb, le-leb}
use Rattle.laws.proofs.Bools.{failed, passed}
use Rattle.settings.specs.Model.{picked}
use Rattle.settings.proofs.entries.pick.Goals as goal
use Rattle.settings.proofs.entries.pick.Goals.{Else-day-next}

pub returns-then-next-mission : goal.returns-then-next-mission
unfolding picked
returns-then-next-mission c =
    let g = c.args in
    let other : g.next.mission ≢ g.mission = λ same. omega arith in
    rw (ne_eqb _ _ other)

pub returns-then-day-next : goal.returns-then-day-next
unfolding picked
returns-then-day-next c =
    let g = c.args in
    let of-mission : g.next.mission ≡ g.mission = omega arith in
    let after : g.day < g.next.day = omega arith in
    rw (eq-eqb _ _ of-mission, lt-leb _ _ after)

-- The entry is of the mission, and not after the day.
serves : (c : Else-day-next) → let g = c.args in (g.next.mission ≡ g.mission) × (g.next.day ≤ g.day)
serves c = (omega arith, omega arith)

pub returns-then-not-is_later : goal.returns-then-not-is_later
unfolding picked
returns-then-not-is_later c =
    let it = serves (goal.at.returns-then-not-is_later c).Else-day-next in
    rw (eq-eqb _ _ it.0, le-leb _ _ it.1, failed c.is_later.ensures c.if-not-is_later.true-raw)

pub returns : goal.returns
unfolding picked
returns c =
    let it = serves (goal.at.returns c).Else-day-next in
    rw (eq-eqb _ _ it.0, le-leb _ _ it.1, passed c.is_later.ensures c.if-not-is_later.false-raw)
