-- Document 02, E6: the slots of the two sides, of every accepted card. "Demand 3 holds for these cards too": what `Promises` has of every
-- accepted card, and of every one that asks for a yes or no, it has of shared cards, each side by its own slot count;
-- nowhere is a left slot asked to be one condition's alone.
-- Proved in `proofs/SharedPromises.antt`.
use Rattle.std.specs.Prelude.{◌≡◌, List, [], ◌∷◌, map, ◌≢◌, ℕ, suc, ◌+◌, ◌≤◌, ◌<◌, take}
use Rattle.answer.specs.Outcome.{accepted}
use Rattle.circuit.specs.Every.{Some}
use Rattle.circuit.specs.Report.{report}
use Rattle.circuit.specs.Table.{left_slots, table_bytes}
use Rattle.comparison.specs.Condition.{Condition}
use Rattle.query.specs.Card.{Card, AsksYesOrNo, slots_of, left_count}
use Rattle.query.specs.Form.{Shared, condition_at}
use Rattle.query.specs.Reading.{read_card}
use Rattle.query.specs.Whole.{table_of}

-- a left slot is used where it is one of a condition's
abbrev pub UsesLeft : List Condition → ℕ → Type 0
UsesLeft conditions i = Some (λ (c : Condition). (c.left ≤ i) × (i < c.left + c.digits)) conditions

-- "the left slot count (highest used plus 1)": every slot that is used is below it, and the one right below it is used
abbrev pub LeftCount : Type 0
LeftCount =
    (bytes : List ℕ) (card : Card) → read_card bytes ≡ accepted card
    → ((i : ℕ) → UsesLeft card.conditions i → i < left_slots (table_of card).head)
    × ((i : ℕ) × UsesLeft card.conditions i × (suc i ≡ left_slots (table_of card).head))

-- "Its table has head mark 0x47 0x4A, byte 4 the left slot count .., byte 5 the right slot count"; other cards' tables keep document 01's head:
-- "0x47 0x48, p, s, N, spare 0"
abbrev pub TableHeads : Type 0
TableHeads =
    (card : Card)
    → let first = take 6 (table_bytes (table_of card)) in
    let p = card.prime in
    let s = card.weight in
    (card.form ≡ Shared → first ≡ 0x47 ∷ 0x4A ∷ p ∷ s ∷ left_count card.conditions ∷ slots_of card.conditions ∷ [])
    × (card.form ≢ Shared → first ≡ 0x47 ∷ 0x48 ∷ p ∷ s ∷ slots_of card.conditions ∷ 0 ∷ [])

-- what a condition asks, without its slots: relation and n
abbrev pub unplaced : Condition → Condition
unplaced c = condition_at 0 0 c.relation c.digits 0

-- sharing costs nothing and saves nothing of a table: of two cards that ask for a yes or no with the same p and s, and with the same relations
-- and digit counts in order, the same five numbers are reported, whichever slots their conditions read
abbrev pub SameNumbers : Type 0
SameNumbers =
    (bytes bytes' : List ℕ) (card card' : Card) → read_card bytes ≡ accepted card → read_card bytes' ≡ accepted card'
    → AsksYesOrNo card → AsksYesOrNo card' → card.prime ≡ card'.prime → card.weight ≡ card'.weight
    → map unplaced card.conditions ≡ map unplaced card'.conditions
    → report (table_of card) ≡ report (table_of card')
