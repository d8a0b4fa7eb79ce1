-- The conditions of a card that was read, one by one, as whoever counts or writes them meets them.
use Rattle.std.specs.Prelude.{◌≡◌, List, [], ◌∷◌, ℕ, ◌+◌, take, drop}
use Rattle.answer.specs.Outcome.{accepted, on_answer}
use Rattle.comparison.specs.Condition.{Condition}
use Rattle.query.specs.Card.{Card, slots_of}
use Rattle.query.specs.Reading.{read_card}
use Rattle.query.specs.Score.{weights_of}
use Rattle.card.specs.declared.Record.{Record}
use Rattle.card.specs.declared.CardHead.{CardHead}
use Rattle.card.specs.Parts.{record_is, head_is, read_summary}

-- the bytes are a card that is accepted, and this is what it says
abbrev pub ReadAs : List ℕ → CardHead → Type 0
ReadAs bytes head = accepted (head_is head) ≡ read_summary bytes

-- the conditions of a card that is accepted; of other bytes none
abbrev pub conditions_of : List ℕ → List Condition
conditions_of bytes = on_answer (read_card bytes) (λ number. []) (λ (card : Card). card.conditions)

-- the first k conditions take the slots before this one
abbrev pub Taken : List Condition → ℕ → ℕ → Type 0
Taken cs k slot = slot ≡ slots_of (take k cs)

-- a record is the condition of number k
abbrev pub IsRecord : List Condition → ℕ → Record → Type 0
IsRecord cs k r = drop k cs ≡ record_is r ∷ drop (k + 1) cs

-- the condition of number k has this weight
abbrev pub IsWeight : List Condition → ℕ → ℕ → Type 0
IsWeight cs k weight = drop k (weights_of cs) ≡ weight ∷ drop (k + 1) (weights_of cs)
