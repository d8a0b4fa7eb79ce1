-- Query cards: what a card says, its bytes, and the rules that it keeps (document 01, "Card"; document 02, E1 and E6).
use Rattle.std.specs.Prelude.{◌≡◌, ℕ, ◌+◌, Bool, true, false, not, ◌&&◌, ◌||◌, List, [], ◌∷◌, ◌++◌, map, ltb, leb, length}
use Rattle.field.specs.Primes.{listed}
use Rattle.field.specs.Sum.{total}
use Rattle.digits.specs.Number.{most_digits, wrong_count}
use Rattle.circuit.specs.Bytes.{marked}
use Rattle.circuit.specs.Sums.{largest}
use Rattle.circuit.specs.Table.{wrong_weight}
use Rattle.comparison.specs.Condition.{Condition}
use Rattle.comparison.specs.Relation.{relation_number}
use Rattle.query.specs.Form.{Form, Question, YesOrNo, Score, question_of, head_mark_of, record_mark_of, tail_bytes, keeps_tail}

pub record Card : Type 0 where
  pub form : Form
  pub prime : ℕ
  pub weight : ℕ
  pub conditions : List Condition

-- a card asks for a yes or no, or for a score
abbrev pub AsksYesOrNo : Card → Type 0
AsksYesOrNo card = question_of card.form ≡ YesOrNo

abbrev pub AsksScore : Card → Type 0
AsksScore card = question_of card.form ≡ Score

-- "condition count c (1 to 8)"
abbrev pub most_conditions : ℕ
most_conditions = 8

abbrev pub wrong_condition_count : ℕ → Bool
wrong_condition_count c = ltb c 1 || ltb most_conditions c

-- the sum over the conditions
abbrev pub over_conditions : (Condition → ℕ) → List Condition → ℕ
over_conditions f conditions = total (map f conditions)

-- "The digits of all conditions together, N"; of a shared card the right slots alone
abbrev pub slots_of : List Condition → ℕ
slots_of conditions = over_conditions (λ (c : Condition). c.digits) conditions

-- "the left slot count (highest used plus 1)"
abbrev pub left_count : List Condition → ℕ
left_count conditions = largest (map (λ (c : Condition). c.left + c.digits) conditions)

-- "total weight"
abbrev pub total_weight : List Condition → ℕ
total_weight conditions = over_conditions (λ (c : Condition). c.weight) conditions

-- "26, total weight of p or more", of a card that asks for a score
abbrev pub wrong_total : Question → ℕ → ℕ → Bool
wrong_total YesOrNo p weights = false
wrong_total Score p weights = leb p weights

-- "mark .., relation, n", and what the form has after n
abbrev pub condition_bytes : Form → Condition → List ℕ
condition_bytes form c = marked (record_mark_of form) (relation_number c.relation ∷ c.digits ∷ tail_bytes form c)

unfoldable pub conditions_bytes : Form → List Condition → List ℕ
conditions_bytes form [] = []
conditions_bytes form (c ∷ cs) = condition_bytes form c ++ conditions_bytes form cs

-- "Head, 6 bytes: mark 0xC5 0x48, p, weight s .., condition count c .., spare 0. Then c condition records", with the marks of the form
abbrev pub card_bytes : Card → List ℕ
card_bytes card =
    marked (head_mark_of card.form) (card.prime ∷ card.weight ∷ length card.conditions ∷ 0 ∷ [])
    ++ conditions_bytes card.form card.conditions

-- each has 1 to 16 digits and what its form asks, with the slots after those of the conditions before it
unfoldable pub in_slots : Form → ℕ → ℕ → List Condition → Bool
in_slots form p slot [] = true
in_slots form p slot (c ∷ cs) =
    not (wrong_count c.digits) && (keeps_tail form p slot c && in_slots form p (slot + c.digits) cs)

-- every rule is kept
abbrev pub keeps_rules : Card → Bool
keeps_rules card =
    listed card.prime
    && (not (wrong_weight card.weight)
    && (not (wrong_condition_count (length card.conditions))
    && (in_slots card.form card.prime 0 card.conditions
    && (not (ltb most_digits (slots_of card.conditions))
    && not (wrong_total (question_of card.form) card.prime (total_weight card.conditions))))))
