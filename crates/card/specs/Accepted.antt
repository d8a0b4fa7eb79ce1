-- A card that was read, as the code holds it: its bytes and what they say, and its conditions from one on.
use Rattle.std.specs.Prelude.{List, drop, Result}
use Rattle.answer.specs.Outcome.{Answer}
use Rattle.answer.specs.Settled.{answer_of}
use Rattle.answer.specs.declared.Refusal.{Refusal}
use Rattle.comparison.specs.Condition.{Condition}
use Rattle.card.specs.declared.accepted.Card.{Card}
use Rattle.card.specs.declared.accepted.Conditions.{Conditions}
use Rattle.card.specs.Conditions.{conditions_of}
use Rattle.card.specs.Parts.{Summary, head_is}

-- the refusal's number, or what the card says
abbrev pub card_answer : Result Card Refusal → Answer Summary
card_answer = answer_of (λ (card : Card). head_is card.head)

-- the conditions that are still to come
abbrev pub conditions_left : Conditions → List Condition
conditions_left left = drop left.k (conditions_of left.card.bytes.now)
