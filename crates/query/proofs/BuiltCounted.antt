-- Every gate of a built table counts: the conditions are networks beside each other, and what ends the table is one over their outputs.
-- By induction on the conditions. So products and squares are counted over all records.
-- Assumes nothing.
use mathlib.Core.Path.{◌≡◌, sym, ap}
use mathlib.Core.List.{List, [], ◌∷◌}
use Prim.Native.Nat.{ℕ, ◌%◌, ◌≤◌}
use native.Mathlib.Nat.{zero-add}
use lib.ListN.{length}
use Rattle.answer.specs.Outcome.{accepted}
use Rattle.circuit.specs.Count.{is_product, is_square, count, products, squares}
use Rattle.circuit.specs.Every.{Every}
use Rattle.circuit.proofs.Every.{every_map}
use Rattle.circuit.proofs.Networks.{Network, wires, in_sequence, side_by_side, network_counted}
use Rattle.comparison.specs.Condition.{Condition}
use Rattle.comparison.specs.Lawful.{Lawful}
use Rattle.comparison.specs.Tests.{base_tests}
use Rattle.comparison.proofs.ConditionNetwork.{condition_network}
use Rattle.comparison.proofs.Lawful.{base_lawful}
use Rattle.query.specs.Card.{Card}
use Rattle.query.specs.CountPromises.{BuiltCounted}
use Rattle.query.specs.Form.{question_of}
use Rattle.query.specs.Promises.{gates_of, ended}
use Rattle.query.specs.Reading.{read_card}
use Rattle.query.specs.Whole.{Draft, begin, add, add_all, filled, table_of}
use Rattle.query.proofs.AnyTests.{known, good, sound, outputs_length, output_last, gates_fit}
use Rattle.query.proofs.Ending.{end_network}

-- a draft whose gates are a network, with conditions added to it
all_network : (p : ℕ) → 3 ≤ p → p % 2 ≡ 1 → (draft : Draft) (cs : List Condition) → Every (λ (c : Condition). 1 ≤ c.digits) cs
    → Network 0 [] draft.gates draft.outputs
    → let more = add_all (base_tests p) p draft cs in Network 0 [] more.gates more.outputs
unfolding add_all
all_network p three odd draft [] some network = network
all_network p three odd draft (c ∷ cs) some network =
    let k = length draft.gates in
    all_network p three odd (add (base_tests p) p draft c) cs some.1
    (side_by_side network (sym (zero-add k)) (condition_network p three odd c k some.0) (λ x none. absurd none))

pub built_counted : BuiltCounted
built_counted bytes card e =
    let p = card.prime in
    let cs = card.conditions in
    let three = (known bytes card e).prime.low in
    let odd = (known bytes card e).prime.odd in
    let t = base_tests p in
    let law : Lawful p t = base_lawful p three odd in
    let head = (table_of card).head in
    let digits = every_map (λ (c : Condition) slots. slots.0) cs (good bytes card e) in
    let conditions = all_network p three odd begin cs digits (wires 0 [] (λ x none. absurd none)) in
    let end = end_network head cs (filled card) (sound bytes card e t law) (outputs_length bytes card e t law)
    (known bytes card e).count.0 (question_of card.form) in
    network_counted head (gates_of card) (ended card).output (gates_fit bytes card e t law)
    (in_sequence conditions (sym (zero-add (length (filled card).gates))) end) (output_last bytes card e t law)

-- so its counts are those over all records
pub built_counts : (bytes : List ℕ) (card : Card) → read_card bytes ≡ accepted card
    → (products (gates_of card) ≡ count is_product (gates_of card)) × (squares (gates_of card) ≡ count is_square (gates_of card))
built_counts bytes card e =
    let same = built_counted bytes card e in (ap (count is_product) same, ap (count is_square) same)
