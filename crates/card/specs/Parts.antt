-- A form, a record and a card's head, as the code holds them.
use Rattle.std.specs.Prelude.{ℕ, ◌+◌, ◌*◌, List, length, drop}
use Rattle.answer.specs.Outcome.{Answer, refused, accepted, on_answer}
use Rattle.circuit.specs.Bytes.{byte}
use Rattle.circuit.specs.Table.{SlotCounts}
use Rattle.comparison.specs.Condition.{Condition}
use Rattle.query.specs.Card.{Card, slots_of, left_count, total_weight}
use Rattle.query.specs.Form as query
use Rattle.query.specs.Reading.{read_conditions, read_formed, read_card}
use Rattle.query.specs.Whole.{counts_by}
use Rattle.relations.specs.Relations.{relation_is}
use Rattle.card.specs.declared.Form.{Form}
use Rattle.card.specs.declared.Form.TheVariants as form
use Rattle.card.specs.declared.Question.{Question}
use Rattle.card.specs.declared.Question.TheVariants as question
use Rattle.card.specs.declared.Record.{Record}
use Rattle.card.specs.declared.Sums.{Sums}
use Rattle.card.specs.declared.CardHead.{CardHead}

-- ---- forms

-- the form of the same name
abbrev pub form_is : Form → query.Form
form_is form.Plain = query.Plain
form_is form.Scored = query.Scored
form_is form.Shared = query.Shared

-- the question of the same name
abbrev pub question_is : Question → query.Question
question_is question.YesOrNo = query.YesOrNo
question_is question.Score = query.Score

-- ---- records

-- the condition that the code's struct stands for
abbrev pub record_is : Record → Condition
record_is r =
    record { relation = relation_is r.relation; digits = r.digits; left = r.left; right = r.right; weight = r.weight }

-- the bytes of a card of this form from record number k on
abbrev pub records_from : query.Form → ℕ → List ℕ → List ℕ
records_from form k bytes = drop (query.head_size + query.record_size form * k) bytes

-- the weight in the record that the bytes begin with, or 0 where its form has none
abbrev pub weight_in : query.Form → List ℕ → ℕ
weight_in query.Plain bytes = 0
weight_in query.Scored bytes = byte bytes 4
weight_in query.Shared bytes = 0

-- the first left slot in the record that the bytes begin with, or the next that is free where its form has none
abbrev pub left_in : query.Form → ℕ → List ℕ → ℕ
left_in query.Plain slot bytes = slot
left_in query.Scored slot bytes = slot
left_in query.Shared slot bytes = byte bytes 4

-- the digits and weights of conditions together, and their left slot count
abbrev pub sums_of : List Condition → Sums
sums_of cs = record { slots = slots_of cs; weights = total_weight cs; left = left_count cs }

-- those of the next records, or the first rule broken
abbrev pub read_sums : query.Form → ℕ → ℕ → List ℕ → Answer Sums
read_sums form p count bytes = on_answer (read_conditions form p 0 count bytes) refused (λ cs. accepted (sums_of cs))

-- ---- cards

-- the form, p, s, c, N and the left slot count
pub record Summary : Type 0 where
  pub form : query.Form
  pub prime : ℕ
  pub weight : ℕ
  pub count : ℕ
  pub slots : ℕ
  pub left : ℕ

abbrev pub summary : Card → Summary
summary card = record {
  form = card.form;
  prime = card.prime;
  weight = card.weight;
  count = length card.conditions;
  slots = slots_of card.conditions;
  left = left_count card.conditions;
}

-- what a card's bytes say, or the first rule broken; and the same where the form is known
abbrev pub read_summary : List ℕ → Answer Summary
read_summary bytes = on_answer (read_card bytes) refused (λ card. accepted (summary card))

abbrev pub read_formed_summary : query.Form → List ℕ → Answer Summary
read_formed_summary form bytes = on_answer (read_formed form bytes) refused (λ card. accepted (summary card))

-- what the code's struct stands for
abbrev pub head_is : CardHead → Summary
head_is head = record {
  form = form_is head.form;
  prime = head.prime;
  weight = head.weight;
  count = head.count;
  slots = head.slots;
  left = head.left;
}

-- the slot counts in the head of the table of a card that says this
abbrev pub slots_said : Summary → SlotCounts
slots_said said = counts_by said.form said.left said.slots
