-- The table of a card (document 01, "Whole card"): "Conditions in order, then the product tree over their outputs.",
-- or their score (document 02, E1); and its head, which of a shared card has two slot counts (E6). It is begun, filled in condition by condition, and finished.
use Rattle.std.specs.Prelude.{ℕ, List, [], ◌∷◌, ◌++◌, length}
use Rattle.circuit.specs.Gate.{Gate}
use Rattle.circuit.specs.ProductTree.{product_tree}
use Rattle.circuit.specs.Segment.{Node, Segment}
use Rattle.circuit.specs.Table.{SlotCounts, Both, Each, Table}
use Rattle.comparison.specs.Condition.{Condition}
use Rattle.comparison.specs.Tests.{Tests, base_tests}
use Rattle.comparison.specs.Writing.{condition_by}
use Rattle.query.specs.Card.{Card, slots_of, left_count}
use Rattle.query.specs.Form.{Form, Plain, Scored, Shared, Question, YesOrNo, Score, question_of}
use Rattle.query.specs.Score.{score_sum}

-- the gates written so far, and the output of each condition
pub record Draft : Type 0 where
  pub gates : List Gate
  pub outputs : List Node

abbrev pub begin : Draft
begin = record { gates = []; outputs = [] }

-- one condition more, from the next free gate number on, whose order digits have the tests t
abbrev pub add : Tests → ℕ → Draft → Condition → Draft
add t p draft c =
    let written = condition_by t p c (length draft.gates) in
    record { gates = draft.gates ++ written.gates; outputs = draft.outputs ++ (written.output ∷ []) }

unfoldable pub add_all : Tests → ℕ → Draft → List Condition → Draft
add_all t p draft [] = draft
add_all t p draft (c ∷ cs) = add_all t p (add t p draft c) cs

-- conditions added to a new draft
abbrev pub draft_of : Tests → ℕ → List Condition → Draft
draft_of t p conditions = add_all t p begin conditions

-- "then the product tree over their outputs"; of a score card "After all conditions' gates, each condition's output is scaled ..;
-- there is no product tree.": by what is asked, over the outputs of these conditions, from gate number k on
abbrev pub end_by : Question → ℕ → List Condition → ℕ → List Node → Segment
end_by YesOrNo p conditions k outputs = product_tree k outputs
end_by Score p conditions k outputs = score_sum p conditions k outputs

-- from the next free gate number on
abbrev pub end_of : Card → Draft → Segment
end_of card draft = end_by (question_of card.form) card.prime card.conditions (length draft.gates) draft.outputs

abbrev pub finish : Card → Draft → List Gate
finish card draft = draft.gates ++ (end_of card draft).gates

-- a card with all its conditions added
abbrev pub filled_by : Tests → Card → Draft
filled_by t card = draft_of t card.prime card.conditions

-- the slot counts of a table's head, by the form: N on both sides; of a shared card
-- "byte 4 the left slot count (highest used plus 1), byte 5 the right slot count"
abbrev pub counts_by : Form → ℕ → ℕ → SlotCounts
counts_by Plain left N = Both N
counts_by Scored left N = Both N
counts_by Shared left N = Each left N

abbrev pub slot_counts : Form → List Condition → SlotCounts
slot_counts form conditions = counts_by form (left_count conditions) (slots_of conditions)

-- its table, whose order digits have the tests t
abbrev pub table_by : Tests → Card → Table
table_by t card = record {
  head = record { prime = card.prime; weight = card.weight; slots = slot_counts card.form card.conditions };
  gates = finish card (filled_by t card);
}

-- by document 01's tests
abbrev pub filled : Card → Draft
filled card = filled_by (base_tests card.prime) card

-- "Its table is the 8(G+1) bytes that Build writes, the head and the gates of the steps above and no others."
abbrev pub table_of : Card → Table
table_of card = table_by (base_tests card.prime) card
