-- What is proved of what Build and Forecast take, leave and turn away (demand 1). Proved in `proofs/Reading.antt`,
-- `proofs/Plain.antt` and `proofs/Building.antt`.
use Rattle.std.specs.Prelude.{◌≡◌, ◌≢◌, ◌↔◌, ◌⊎◌, true, false, List, ℕ, ◌≤◌, ◌<◌, length, take, drop}
use Rattle.answer.specs.Outcome.{refused, accepted, Keeps}
use Rattle.circuit.specs.Bytes.{wrong_mark}
use Rattle.circuit.specs.Table.{table_bytes}
use Rattle.query.specs.Card.{Card, card_bytes, keeps_rules}
use Rattle.query.specs.Form.{head_size, Plain, head_mark_of}
use Rattle.query.specs.Outcomes.{table_room, building, forecasting}
use Rattle.query.specs.Reading.{read_card, read_plain}
use Rattle.query.specs.Whole.{table_of}

-- "Accepted and finished: all others.": the bytes of every card that breaks no rule are read as that card
abbrev pub AcceptsCards : Type 0
AcceptsCards = (card : Card) → keeps_rules card ≡ true → read_card (card_bytes card) ≡ accepted card

-- and no other bytes are accepted
abbrev pub OnlyCards : Type 0
OnlyCards =
    (bytes : List ℕ) (card : Card) → read_card bytes ≡ accepted card → (keeps_rules card ≡ true) × (bytes ≡ card_bytes card)

-- plain cards alone (document 02, E7) are the cards that Build takes and that are plain
abbrev pub PlainCards : Type 0
PlainCards = (bytes : List ℕ) (card : Card) → (read_plain bytes ≡ accepted card) ↔ ((read_card bytes ≡ accepted card) × (card.form ≡ Plain))

-- under 6 bytes and after a plain card's head mark they are read as Build reads them; "cards that are not plain give 2", whatever else they break
abbrev pub PlainAlone : Type 0
PlainAlone =
    (bytes : List ℕ)
    → ((length bytes < head_size) ⊎ (wrong_mark (head_mark_of Plain) bytes ≡ false) → read_plain bytes ≡ read_card bytes)
    × (head_size ≤ length bytes → wrong_mark (head_mark_of Plain) bytes ≡ true → read_plain bytes ≡ refused 2)

-- "a card is accepted where none of Build's numbers but perhaps 11 turns it away": any other is turned away by a number that is not 11,
-- whatever is lent
abbrev pub TurnedAway : Type 0
TurnedAway =
    (bytes lent : List ℕ) (number : ℕ) → read_card bytes ≡ refused number
    → ((building bytes lent).answer ≡ refused number) × (number ≢ 11)

-- 11 exactly where an accepted card's table has no room
abbrev pub RoomDecides : Type 0
RoomDecides =
    (bytes lent : List ℕ) (card : Card) → read_card bytes ≡ accepted card
    → ((building bytes lent).answer ≡ refused 11) ↔ (length lent < table_room (table_of card))

-- "it fills exactly 8(G+1) bytes and no later one": the first are the table's, the others as they were
abbrev pub FillsExactly : Type 0
FillsExactly =
    (bytes lent : List ℕ) (card : Card) → read_card bytes ≡ accepted card → table_room (table_of card) ≤ length lent
    → (take (table_room (table_of card)) (building bytes lent).lent ≡ table_bytes (table_of card))
    × (drop (table_room (table_of card)) (building bytes lent).lent ≡ drop (table_room (table_of card)) lent)

-- "A refusal answers its number and nothing else; every lent byte is then unaltered."
abbrev pub RefusalKeeps : Type 0
RefusalKeeps = (bytes lent : List ℕ) → Keeps lent (building bytes lent)

-- Forecast: "the same answers from the card only, without 11": it refuses exactly as Build does, whatever is lent, but for 11
abbrev pub SameRefusal : Type 0
SameRefusal =
    (bytes lent : List ℕ) (number : ℕ)
    → (forecasting bytes ≡ refused number) ↔ (((building bytes lent).answer ≡ refused number) × (number ≢ 11))
