-- An open build: what its state keeps, that it has as many outputs as its count says, and the room that a pen after its gates has.
-- Assumes nothing.
use mathlib.Core.Path.{◌≡◌, ap}
use mathlib.Core.Bool.{true, false, not}
use mathlib.Core.List.{List}
use Prim.Native.Nat.{ℕ, ◌+◌, ◌*◌, ◌≤◌}
use native.Mathlib.Omega.{arith}
use borrow.Author.Tests.{ltb-false, not-true, not-false}
use lib.Dec.{ltb}
use lib.ListN.{length, length-map, length-take}
use Rattle.field.specs.Primes.{OddPrime, listed}
use Rattle.field.proofs.Primes.{listed_is_odd_prime}
use Rattle.field.proofs.Tests.{neither, both}
use Rattle.digits.specs.Number.{most_digits}
use Rattle.circuit.specs.Table.{wrong_weight, most_gates}
use Rattle.query.specs.Card.{most_conditions}
use Rattle.filling.specs.State as filling
use Rattle.writer.specs.Pen.{Room}
use Rattle.writer.specs.declared.Pen.{Pen}
use Rattle.state.specs.State.{state_is, pen_of}
use Rattle.state.specs.declared.build.BuildState.{BuildState}

-- what the state of an open build keeps
pub record Open (state : filling.BuildState) : Type 0 where
  pub begun : state.begun ≡ true
  pub prime : OddPrime state.prime
  pub weight : wrong_weight state.weight ≡ false
  pub slots : state.slots ≤ most_digits
  pub gates : state.gates ≤ filling.most_for_digit * state.slots
  pub counts : state.products + state.squares ≤ state.gates
  pub shallow : filling.too_deep state.outputs ≡ false

pub open_facts : (state : filling.BuildState) → filling.is_closed state ≡ false → Open state
open_facts state t =
    let begun = neither (not state.begun) _ t in
    let prime = neither (not (listed state.prime)) _ begun.1 in
    let weight = neither (wrong_weight state.weight) _ prime.1 in
    let slots = neither (ltb most_digits state.slots) _ weight.1 in
    let gates = neither (ltb (filling.most_for_digit * state.slots) state.gates) _ slots.1 in
    let counts = neither (ltb state.gates (state.products + state.squares)) _ gates.1 in
    record {
      begun = not-false _ begun.0;
      prime = (listed_is_odd_prime state.prime).0 (not-false _ prime.0);
      weight = weight.0;
      slots = ltb-false most_digits state.slots slots.0;
      gates = ltb-false (filling.most_for_digit * state.slots) state.gates gates.0;
      counts = ltb-false state.gates (state.products + state.squares) counts.0;
      shallow = counts.1;
    }

-- the arrays of an open build have room for its count
pub few_open : (state : BuildState) → filling.is_closed (state_is state) ≡ false → state.count ≤ most_conditions
few_open state closed =
    let h = both state.begun (not (ltb most_conditions state.count)) (open_facts (state_is state) closed).begun in
    ltb-false most_conditions state.count (not-true _ h.1)

-- so it has as many outputs
pub outputs_open : (state : BuildState) → filling.is_closed (state_is state) ≡ false → length (state_is state).outputs ≡ state.count
outputs_open state closed =
    let few = few_open state closed in
    simp (length-map, length-take) (omega (arith, few, state.room))

-- a pen after the gates so far has room for so many more, where the table has
pub open_room : (state : filling.BuildState) (pen : Pen) (n : ℕ) (table : List ℕ) → filling.is_closed state ≡ false → pen ≡ pen_of state
    → 8 * (state.gates + n + 1) ≤ length table → state.gates + n ≤ most_gates → Room table pen n
open_room state pen n table closed same room few =
    let counts = (open_facts state closed).counts in
    let next : pen.next ≡ state.gates = ap (λ (p : Pen). p.next) same in
    let products : pen.products ≡ state.products = ap (λ (p : Pen). p.products) same in
    let squares : pen.squares ≡ state.squares = ap (λ (p : Pen). p.squares) same in
    (omega (arith, room, next), omega (arith, few, next), omega (arith, counts, products, next), omega (arith, counts, squares, next))
