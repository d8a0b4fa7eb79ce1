-- Document 02, E5: "Every table that we build keeps its counts; say so as a fact over all cards."
-- Proved in `proofs/BuiltCounted.antt`.
use Rattle.std.specs.Prelude.{◌≡◌, List, ℕ}
use Rattle.answer.specs.Outcome.{accepted}
use Rattle.circuit.specs.Count.{counted}
use Rattle.query.specs.Card.{Card}
use Rattle.query.specs.Promises.{gates_of}
use Rattle.query.specs.Reading.{read_card}

-- the gates that count are all gates of the table: each is used, and no pair is multiplied twice
abbrev pub BuiltCounted : Type 0
BuiltCounted = (bytes : List ℕ) (card : Card) → read_card bytes ≡ accepted card → counted (gates_of card) ≡ gates_of card
