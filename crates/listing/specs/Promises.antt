-- What is proved of listings. Proved in `proofs/Listed.antt`, `proofs/LongCard.antt` and `proofs/Lengths.antt`.
use Rattle.std.specs.Prelude.{◌≡◌, List, ◌++◌, ℕ, ◌+◌, ◌*◌, ◌≤◌, ◌<◌, length, take}
use Rattle.answer.specs.Outcome.{refused, accepted}
use Rattle.answer.specs.Report.{Report}
use Rattle.circuit.specs.Table.{most_gates}
use Rattle.query.specs.Card.{Card, most_conditions}
use Rattle.query.specs.Form.{head_size, most_record}
use Rattle.query.specs.Outcomes.{forecasting}
use Rattle.query.specs.Promises.{gates_of}
use Rattle.query.specs.Reading.{read_card}
use Rattle.listing.specs.Lines.{gate_lines, summary_line, refusal_line}
use Rattle.listing.specs.Listing.{listing}

-- the refusal that is printed is Forecast's
abbrev pub RefusalListed : Type 0
RefusalListed = (bytes : List ℕ) (number : ℕ) → forecasting bytes ≡ refused number → listing bytes ≡ refusal_line number

-- the counts that are printed are Forecast's, and the lines after them are those of all gates of the card
abbrev pub TableListed : Type 0
TableListed =
    (bytes : List ℕ) (card : Card) (told : Report) → read_card bytes ≡ accepted card → forecasting bytes ≡ accepted told
    → listing bytes ≡ summary_line told ++ gate_lines 0 (gates_of card)

-- the bytes of the longest card, whatever its form
abbrev pub most_card : ℕ
most_card = head_size + most_record * most_conditions

-- input longer than any card is refused, and as its first bytes are, one more than a card has
abbrev pub LongCard : Type 0
LongCard =
    (bytes : List ℕ) → most_card < length bytes
    → ((number : ℕ) × (forecasting bytes ≡ refused number))
    × (forecasting (take (most_card + 1) bytes) ≡ forecasting bytes)
    × (listing (take (most_card + 1) bytes) ≡ listing bytes)

-- a summary has 61 bytes at most, a gate line 21
abbrev pub most_listing : ℕ
most_listing = 61 + 21 * most_gates

-- no listing is longer than that
abbrev pub ShortListing : Type 0
ShortListing = (bytes : List ℕ) → length (listing bytes) ≤ most_listing
